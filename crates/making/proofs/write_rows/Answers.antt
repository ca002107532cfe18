-- `making::write_rows` meets its contract: what is left to write are the places of the rows left.
use mathlib.Core.List.{[]}
use mathlib.Core.Path.{ap}
use Prim.Native.Nat.{◌+◌}
use native.Mathlib.Omega.{arith}
use Rattle.lists.specs.WroteLaws.{left-all, left_is, left-done, left-length, left-more}
use Rattle.bits.specs.Row.{row, places_in}
use Rattle.making.specs.Written.{flat}
use Rattle.making.specs.Rows.{rows_from, rows_all, rows_next, rows_none}
use Rattle.lists.specs.WroteLaws.{front-room}
use Rattle.making.proofs.write_rows.Goals as goal

pub loop-i-init : goal.loop-i-init
loop-i-init c = let a = c.args in left_is _ (left-all _ _ _) (ap flat (rows_all a.w.now a.m))

pub write_row-k-requires : goal.write_row-k-requires
write_row-k-requires c =
    let a = c.args in
    let s = c.loop-i in
    let n = ap flat (rows_next a.w.now a.m s.i c.loop-i-test.true) in
    (front-room (places_in (row a.w.now s.i)) (flat (rows_from a.w.now a.m (s.i + 1))) c.requires.0 (left_is _ s.invariant n), omega arith)

pub loop-i-preserved : goal.loop-i-preserved
loop-i-preserved c =
    let a = c.args in
    let s = c.loop-i in
    let n = ap flat (rows_next a.w.now a.m s.i c.loop-i-test.true) in
    left-more c.requires.0 _ _ (left_is _ s.invariant n) c.write_row-k.ensures

pub shape_of-table : goal.shape_of-table
shape_of-table c = left-length c.requires.0 c.loop-i.invariant

pub returns : goal.returns
returns c =
    let a = c.args in
    let s = c.loop-i in
    left-done (left_is [] s.invariant (ap flat (rows_none a.w.now a.m s.i c.loop-i-test.false)))
