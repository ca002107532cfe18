-- `making::write_row` meets its contract: what is left to write are the places of the words left.
use mathlib.Core.List.{[]}
use Prim.Native.Nat.{◌+◌, ◌-◌, ◌*◌}
use native.Mathlib.Omega.{arith}
use lib.ListN.{get_or}
use Rattle.lists.specs.WroteLaws.{left-all, left_is, left-done, left-length, left-more}
use Rattle.bits.specs.WordPlaces.{places_of, places_from, row-places, words-next, words-none}
use Rattle.lists.specs.WroteLaws.{front-room}
use Rattle.making.proofs.write_row.Goals as goal

pub loop-i-init : goal.loop-i-init
loop-i-init c = let a = c.args in left_is _ (left-all _ _ _) (row-places a.w.now a.r)

pub write_word-k-requires : goal.write_word-k-requires
write_word-k-requires c =
    let a = c.args in
    let s = c.loop-i in
    let n = words-next a.w.now a.r s.i c.loop-i-test.true in
    let word = places_of (s.i * 64) 64 (get_or a.w.now (a.r * 16 + s.i) 0) in
    (front-room word (places_from a.w.now a.r (s.i + 1) (16 - (s.i + 1))) c.requires.0 (left_is _ s.invariant n), omega arith)

pub loop-i-preserved : goal.loop-i-preserved
loop-i-preserved c =
    let a = c.args in
    let s = c.loop-i in
    let n = words-next a.w.now a.r s.i c.loop-i-test.true in
    left-more c.requires.0 _ _ (left_is _ s.invariant n) c.write_word-k.ensures

pub shape_of-table : goal.shape_of-table
shape_of-table c = left-length c.requires.0 c.loop-i.invariant

pub returns : goal.returns
returns c =
    let a = c.args in
    let s = c.loop-i in
    left-done (left_is [] s.invariant (words-none a.w.now a.r s.i c.loop-i-test.false))
