-- `read_rest` meets its contract.
use mathlib.Core.Path.{sym, ◌∙◌}
use mathlib.Core.Bool.{true≢false}
use Prim.Native.Nat.{◌*◌}
use native.Mathlib.Omega.{arith}
use lib.ListN.{drop}
use Rattle.lists.specs.Tests.{by_bool}
use Rattle.alist.specs.Alist.{disagree}
use Rattle.alist_read.specs.Reading.{whole}
use Rattle.alist_read.proofs.Answering.{answer-bad, answer-13}
use Rattle.alist_read.proofs.Cursors.{parts_from, columns-lie, rows_lie, product_small, miscounted, counts-right, sound-greatest}
use Rattle.alist_read.proofs.Lists.{bands-agree, agree-bands}
use Rattle.alist_read.proofs.read_rest.Goals as goal

pub overflow_mul-entries : goal.overflow_mul-entries
overflow_mul-entries c = let a = c.args in let g = c.requires in let p = product_small a.n a.a g.1 g.3 in let q = product_small a.m a.b g.2 g.4 in omega arith

pub overflow_add-n-2 : goal.overflow_add-n-2
overflow_add-n-2 c = let a = c.args in let g = c.requires in let p = product_small a.n a.a g.1 g.3 in let q = product_small a.m a.b g.2 g.4 in omega arith

pub overflow_mul-m : goal.overflow_mul-m
overflow_mul-m c = let a = c.args in let g = c.requires in let p = product_small a.n a.a g.1 g.3 in let q = product_small a.m a.b g.2 g.4 in omega arith

pub overflow_add-n-3 : goal.overflow_add-n-3
overflow_add-n-3 c = let a = c.args in let g = c.requires in let p = product_small a.n a.a g.1 g.3 in let q = product_small a.m a.b g.2 g.4 in omega arith

pub returns-then-count-n : goal.returns-then-count-n
returns-then-count-n c = let a = c.args in λ z l read e h. (answer-bad a.text.now a.s a.table.now (whole a.n a.m a.a a.b l) read (miscounted a.n a.m a.a a.b l (λ q. c.if-count-n.true (h ∙ q))))

pub returns-then-not-is_sound : goal.returns-then-not-is_sound
returns-then-not-is_sound c = let a = c.args in λ z l read e h.
    let y = sym h ∙ c.if-count-n.false in
    let p = parts_from y e c.skip_numbers-rw.ensures c.skip_numbers-cl.ensures c.skip_numbers-rl.ensures in
    let d = c.is_sound.ensures.sound z l p in
    let r = c.if-not-is_sound.true in
    (answer-bad a.text.now a.s a.table.now (whole a.n a.m a.a a.b l) read (counts-right a.n a.m a.a a.b l y ∙ sym d.0 ∙ r))

pub returns-then-not-lists_agree : goal.returns-then-not-lists_agree
returns-then-not-lists_agree c = let a = c.args in λ z l read e h.
    let y = sym h ∙ c.if-count-n.false in
    let p = parts_from y e c.skip_numbers-rw.ensures c.skip_numbers-cl.ensures c.skip_numbers-rl.ensures in
    let d = c.is_sound.ensures.sound z l p in
    let r = c.if-not-is_sound.false in
    let good = counts-right a.n a.m a.a a.b l y ∙ sym d.0 ∙ r in
    let q = sound-greatest a.n a.m a.a a.b l (sym d.0 ∙ r) in
    let g = columns-lie p q.0 in let f = rows_lie p q.1 in
    let o = c.lists_agree.ensures.agrees (d.1 r) l (drop a.m (drop a.n l)) (drop a.n l) (drop (a.n * a.a) (drop a.m (drop a.n l))) g f in
    (answer-13 a.text.now a.s a.table.now (whole a.n a.m a.a a.b l) read good
    (by_bool (disagree (whole a.n a.m a.a a.b l)) (λ t. t) (λ t. absurd (true≢false (sym (o.0.no (bands-agree a.n a.m a.a a.b l good g f t)) ∙ c.if-not-lists_agree.true)))))

pub returns : goal.returns
returns c = let a = c.args in λ z l read e h.
    let y = sym h ∙ c.if-count-n.false in
    let p = parts_from y e c.skip_numbers-rw.ensures c.skip_numbers-cl.ensures c.skip_numbers-rl.ensures in
    let d = c.is_sound.ensures.sound z l p in
    let r = c.if-not-is_sound.false in
    let good = counts-right a.n a.m a.a a.b l y ∙ sym d.0 ∙ r in
    let q = sound-greatest a.n a.m a.a a.b l (sym d.0 ∙ r) in
    let g = columns-lie p q.0 in let f = rows_lie p q.1 in
    let o = c.lists_agree.ensures.agrees (d.1 r) l (drop a.m (drop a.n l)) (drop a.n l) (drop (a.n * a.a) (drop a.m (drop a.n l))) g f in
    let t = c.if-not-lists_agree.false in
    c.make.ensures (o.1 t) a.a l read good (agree-bands a.n a.m a.a a.b l good g f (o.0.yes t)) f
