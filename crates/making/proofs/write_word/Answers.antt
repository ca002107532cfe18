-- `making::write_word` meets its contract: what is left to write are the places of the digits left.
use mathlib.Core.List.{[]}
use mathlib.Core.Path.{ap, ◌∙◌}
use Prim.Native.Nat.{◌-◌, ◌<◌}
use native.Mathlib.Nat.{pos_of_ne-zero}
use native.Mathlib.Omega.{arith}
use lib.Bits.{and_le_l}
use lib.Count.{trailing_le}
use lib.ListN.{length}
use Rattle.lists.specs.WroteLaws.{left-all, left_is, left-done, left-room, left-length, left_one}
use Rattle.bits.specs.WordPlaces.{places_of, places-next, places-none}
use Rattle.making.proofs.write_word.Goals as goal

pub loop-y-init : goal.loop-y-init
loop-y-init c = (c.ranges.x.fits, left-all _ _ _)

pub overflow_cast-table : goal.overflow_cast-table
overflow_cast-table c = let z = trailing_le 64 c.loop-y.y in omega arith

pub overflow_add-table : goal.overflow_add-table
overflow_add-table c = let z = trailing_le 64 c.loop-y.y in omega arith

pub overflow_cast-table-in-loop-y : goal.overflow_cast-table-in-loop-y
overflow_cast-table-in-loop-y c = let z = trailing_le 64 c.loop-y.y in omega arith

pub bounds-table-k : goal.bounds-table-k
bounds-table-k c =
    let p = c.requires.0 in
    let s = c.loop-y in
    let n = ap length (places-next c.args.base 64 s.y (pos_of_ne-zero c.loop-y-test.true) s.invariant.0) in
    let r = left-room p s.invariant.1 in
    let l = left-length p s.invariant.1 in
    omega arith

pub offset_bounds-table-k : goal.offset_bounds-table-k
offset_bounds-table-k c =
    let h : c.loop-y.k < length c.loop-y.table = bounds-table-k c in
    let l = left-length c.requires.0 c.loop-y.invariant.1 in
    omega arith

pub overflow_add-k : goal.overflow_add-k
overflow_add-k c =
    let h : c.loop-y.k < length c.loop-y.table = bounds-table-k c in
    let l = left-length c.requires.0 c.loop-y.invariant.1 in
    omega arith

pub loop-y-smaller : goal.loop-y-smaller
loop-y-smaller c =
    let s = c.loop-y in
    let n = ap length (places-next c.args.base 64 s.y (pos_of_ne-zero c.loop-y-test.true) s.invariant.0) in
    omega arith

pub loop-y-preserved : goal.loop-y-preserved
loop-y-preserved c =
    let s = c.loop-y in
    let l = and_le_l s.y (s.y - 1) in
    let n = places-next c.args.base 64 s.y (pos_of_ne-zero c.loop-y-test.true) s.invariant.0 in
    (omega arith, left_one c.requires.0 (left_is _ s.invariant.1 n))

pub shape_of-table : goal.shape_of-table
shape_of-table c = left-length c.requires.0 c.loop-y.invariant.1

pub returns : goal.returns
returns c =
    let b = c.args.base in
    left-done (left_is [] c.loop-y.invariant.1 (ap (places_of b 64) c.loop-y-test.false ∙ places-none b 64))
