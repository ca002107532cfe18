-- `put_weights` meets its contract: what is left to put are the weights of the rows left.
use mathlib.Core.Path.{sym, ap, ◌∙◌}
use mathlib.Core.List.{[], ◌∷◌, map}
use Prim.Native.Nat.{◌+◌}
use native.Mathlib.Omega.{arith}
use lib.ListN.{length}
use Rattle.bits.specs.Row.{rows_in}
use Rattle.making.specs.Rows.{rows_from, rows_all, rows_next, rows_none}
use Rattle.alist_numbers.specs.PutLaws.{put-none, on_both, put-line, part_none, part-more, part-all}
use Rattle.alist_lines.proofs.put_weights.Goals as goal

pub loop-c-init : goal.loop-c-init
loop-c-init c = let a = c.args in (omega arith, omega arith, part_none (put-none _ _) (ap (map length) (rows_all a.w.now a.count)))

pub put_next-next-requires : goal.put_next-next-requires
put_next-next-requires c = let o = c.ones_of.ensures.1 in omega arith

pub loop-c-preserved : goal.loop-c-preserved
loop-c-preserved c =
    let a = c.args in
    let s = c.loop-c in
    let o = c.ones_of in
    let one = o.result ∷ [] in
    let p = c.put_next-next.ensures in
    let h = p.1 in
    let rest = map length (rows_from a.w.now a.count (s.c + 1)) in
    let n = ap (map length) (rows_next a.w.now a.count s.c c.loop-c-test.true) in
    (omega arith, omega arith, part-more one rest s.invariant.2 (n ∙ ap (λ v. v ∷ rest) (sym o.ensures.0)) (λ l q. on_both a.at l one (omega arith) q p.0))

pub shape_of-text : goal.shape_of-text
shape_of-text c = c.end_line.ensures.long ∙ c.loop-c.invariant.2.holds.long

pub returns : goal.returns
returns c =
    let a = c.args in
    let s = c.loop-c in
    let p = c.end_line.ensures in
    let e = p.ends in
    (put-line (map length (rows_in a.w.now a.count)) (part-all s.invariant.2 (ap (map length) (rows_none a.w.now a.count s.c c.loop-c-test.false))) p, omega arith)
