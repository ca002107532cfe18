-- `make` meets its contract.
use mathlib.Core.Path.{sym, ap, ◌∙◌, subst}
use Prim.Native.Nat.{◌*◌, ◌≤◌, ◌<◌}
use native.Mathlib.Omega.{arith}
use lib.ListN.{drop}
use Rattle.making.specs.FitsLaws.{inside}
use Rattle.making.specs.Making.{too_heavy}
use Rattle.making.specs.MakingLaws.{weighed-heavy, weighed-light, rows-length}
use Rattle.making.specs.ReadBack.{length-written}
use Rattle.bits.specs.Row.{rows_in}
use Rattle.alist_read.specs.Reading.{whole}
use Rattle.alist_read.proofs.Answering.{answer-2, answer-3, answer-5, answer-made, wrote_as}
use Rattle.alist_read.proofs.Lists.{checks-loaded}
use Rattle.alist_read.proofs.make.Goals as goal

pub returns-then-beyond : goal.returns-then-beyond
returns-then-beyond c = let a = c.args in λ z k l read good agrees g. (answer-2 a.text.now a.s a.table.now (whole a.n a.rows.count k a.rows.width l) read good agrees (sym c.beyond.ensures ∙ c.if-beyond.true))

pub flip_lists-requires : goal.flip_lists-requires
flip_lists-requires c = let a = c.args in let far = sym c.beyond.ensures ∙ c.if-beyond.false in let i = inside a.n a.s a.rows.count far in let f = i.few-places in let h = i.few-checks in let g = c.requires in (omega arith, omega arith, omega arith)

pub weigh-requires : goal.weigh-requires
weigh-requires c = let a = c.args in let far = sym c.beyond.ensures ∙ c.if-beyond.false in let i = inside a.n a.s a.rows.count far in let h = i.few-checks in let g = c.requires in let e = c.flip_lists.ensures.len in (omega arith, omega arith)

pub shape_of-board-in_default : goal.shape_of-board-in_default
shape_of-board-in_default c = c.flip_lists.ensures.len

pub returns-in_default : goal.returns-in_default
returns-in_default c = let a = c.args in let far = sym c.beyond.ensures ∙ c.if-beyond.false in let i = inside a.n a.s a.rows.count far in λ z k l read good agrees g.
    let few = i.few-checks in let cs = checks-loaded a.n a.rows.count k a.rows.width l good g i.few-places (omega arith) z (c.flip_lists.ensures.flips (drop a.n l) (drop (a.n * k) (drop a.rows.count (drop a.n l))) g).2 in
    let t : 6144 < 65536 = omega arith in
    let n = rows-length c.flip_lists.new.board a.rows.count in
    let heavy = weighed-heavy (rows_in c.flip_lists.new.board a.rows.count) (omega arith) (subst (λ x. 6144 < x) c.in_default.ensures t) in
    (answer-3 a.text.now a.s a.table.now (whole a.n a.rows.count k a.rows.width l) read good agrees far (sym (ap too_heavy cs) ∙ heavy))

pub shape_of-board-then-ones-gt-MOST_ONES : goal.shape_of-board-then-ones-gt-MOST_ONES
shape_of-board-then-ones-gt-MOST_ONES c = c.flip_lists.ensures.len

pub returns-then-ones-gt-MOST_ONES : goal.returns-then-ones-gt-MOST_ONES
returns-then-ones-gt-MOST_ONES c = let a = c.args in let far = sym c.beyond.ensures ∙ c.if-beyond.false in let i = inside a.n a.s a.rows.count far in λ z k l read good agrees g.
    let few = i.few-checks in let cs = checks-loaded a.n a.rows.count k a.rows.width l good g i.few-places (omega arith) z (c.flip_lists.ensures.flips (drop a.n l) (drop (a.n * k) (drop a.rows.count (drop a.n l))) g).2 in
    let y = c.in-Some in let t = c.if-ones-gt-MOST_ONES.true in
    let n = rows-length c.flip_lists.new.board a.rows.count in
    let heavy = weighed-heavy (rows_in c.flip_lists.new.board a.rows.count) (omega arith) (subst (λ x. 6144 < x) y.ensures t) in
    (answer-3 a.text.now a.s a.table.now (whole a.n a.rows.count k a.rows.width l) read good agrees far (sym (ap too_heavy cs) ∙ heavy))

pub shape_of-board-then-table-ne-MOST_WORDS : goal.shape_of-board-then-table-ne-MOST_WORDS
shape_of-board-then-table-ne-MOST_WORDS c = c.flip_lists.ensures.len

pub returns-then-table-ne-MOST_WORDS : goal.returns-then-table-ne-MOST_WORDS
returns-then-table-ne-MOST_WORDS c = let a = c.args in let far = sym c.beyond.ensures ∙ c.if-beyond.false in let i = inside a.n a.s a.rows.count far in λ z k l read good agrees g.
    let few = i.few-checks in let cs = checks-loaded a.n a.rows.count k a.rows.width l good g i.few-places (omega arith) z (c.flip_lists.ensures.flips (drop a.n l) (drop (a.n * k) (drop a.rows.count (drop a.n l))) g).2 in
    let y = c.in-Some in
    let light = weighed-light (rows_in c.flip_lists.new.board a.rows.count) (subst (λ x. x ≤ 6144) y.ensures c.if-ones-gt-MOST_ONES.false) in
    (answer-5 a.text.now a.s a.table.now (whole a.n a.rows.count k a.rows.width l) read good agrees far (sym (ap too_heavy cs) ∙ light.0) c.if-table-ne-MOST_WORDS.true)

pub write-length-requires : goal.write-length-requires
write-length-requires c = let a = c.args in let far = sym c.beyond.ensures ∙ c.if-beyond.false in let i = inside a.n a.s a.rows.count far in let h = i.few-checks in let g = c.requires in let e = c.flip_lists.ensures.len in let y = c.in-Some in let t = c.if-ones-gt-MOST_ONES.false in
    let light = weighed-light (rows_in c.flip_lists.new.board a.rows.count) (subst (λ x. x ≤ 6144) y.ensures t) in
    (y.ensures ∙ light.1, t, c.if-table-ne-MOST_WORDS.false, i.few-places, i.few_bytes, i.few-checks, omega arith)

pub overflow_cast-result : goal.overflow_cast-result
overflow_cast-result c = let a = c.args in let far = sym c.beyond.ensures ∙ c.if-beyond.false in let i = inside a.n a.s a.rows.count far in let y = c.in-Some in
    let cs = rows_in c.flip_lists.new.board a.rows.count in
    let light = weighed-light cs (subst (λ x. x ≤ 6144) y.ensures c.if-ones-gt-MOST_ONES.false) in
    let n = rows-length c.flip_lists.new.board a.rows.count in let o = light.1 in let w = y.ensures in let t = c.if-ones-gt-MOST_ONES.false in
    let few = i.few-checks in
    let l = length-written a.n a.s cs in let q = c.write-length.ensures.next in
    omega arith

pub shape_of-board : goal.shape_of-board
shape_of-board c = c.flip_lists.ensures.len

pub returns : goal.returns
returns c = let a = c.args in let far = sym c.beyond.ensures ∙ c.if-beyond.false in let i = inside a.n a.s a.rows.count far in λ z k l read good agrees g.
    let few = i.few-checks in let cs = checks-loaded a.n a.rows.count k a.rows.width l good g i.few-places (omega arith) z (c.flip_lists.ensures.flips (drop a.n l) (drop (a.n * k) (drop a.rows.count (drop a.n l))) g).2 in
    let y = c.in-Some in
    let light = weighed-light (rows_in c.flip_lists.new.board a.rows.count) (subst (λ x. x ≤ 6144) y.ensures c.if-ones-gt-MOST_ONES.false) in
    answer-made a.text.now a.s a.table.now (whole a.n a.rows.count k a.rows.width l) read good agrees far (sym (ap too_heavy cs) ∙ light.0) c.if-table-ne-MOST_WORDS.false
    (wrote_as a.n a.s cs c.write-length.ensures)
