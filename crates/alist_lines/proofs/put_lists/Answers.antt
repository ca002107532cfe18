-- `put_lists` meets its contract: what is left to put are the lists of the rows left.
use mathlib.Core.Path.{ap}
use mathlib.Core.List.{[], ◌∷◌, map}
use Prim.Native.Nat.{suc}
use native.Mathlib.Omega.{arith}
use Rattle.bits.specs.Row.{row, places_in}
use Rattle.making.specs.Rows.{rows_all, rows_next, rows_none}
use Rattle.alist.specs.AlistText.{rows_of, padded}
use Rattle.alist_numbers.specs.PutLaws.{put-none, lines_more, part_none, part-more, part-all}
use Rattle.alist_lines.proofs.put_lists.Goals as goal

pub loop-c-init : goal.loop-c-init
loop-c-init c =
    let a = c.args in
    (omega arith, omega arith, part_none (put-none _ _) (ap (λ l. map (padded a.most) (rows_of l)) (rows_all a.w.now a.count)))

pub loop-c-preserved : goal.loop-c-preserved
loop-c-preserved c =
    let a = c.args in
    let s = c.loop-c in
    let p = c.put_list-next.ensures in
    let h = p.1 in
    let line = padded a.most (map suc (places_in (row a.w.now s.c))) in
    let n = ap (λ l. map (padded a.most) (rows_of l)) (rows_next a.w.now a.count s.c c.loop-c-test.true) in
    (omega arith, omega arith, part-more (line ∷ []) _ s.invariant.2 n (λ l q. lines_more line l q p.0))

pub shape_of-text : goal.shape_of-text
shape_of-text c = c.loop-c.invariant.2.holds.long

pub returns : goal.returns
returns c =
    let a = c.args in
    let s = c.loop-c in
    (part-all s.invariant.2 (ap (λ l. map (padded a.most) (rows_of l)) (rows_none a.w.now a.count s.c c.loop-c-test.false)), omega arith)
