-- `aerials::hear_all` meets its contract.
use native.Mathlib.Omega.{arith}
use lib.ListN.{get_or}
use Rattle.table.specs.BufferLaws.{place-fits}
use Rattle.table.specs.PacketCall.{part_at}
use Rattle.aerials.specs.HeardLaws.{packet-sized}
use Rattle.erasure.proofs.PlaceByPlace.{part-sized}
use Rattle.packets.specs.Filling.{none_filled, one-filled, block-filled, map-filled}
use Rattle.aerials.proofs.hear_all.Goals as goal

pub loop-p-init : goal.loop-p-init
loop-p-init c = (none_filled _ _ _ _ _ _ c.requires.2)

pub bounds-map1-p : goal.bounds-map1-p
bounds-map1-p c = let e = c.requires.0.marks in omega arith

pub bounds-map2-p : goal.bounds-map2-p
bounds-map2-p c = let e = c.requires.1.marks in omega arith

pub overflow_mul-p : goal.overflow_mul-p
overflow_mul-p c =
    let a = c.args in
    omega (arith, place-fits c.loop-p.p a.n a.s c.loop-p-test.true, c.requires.0.bytes, c.well_formed)

pub hear-requires : goal.hear-requires
hear-requires c =
    let a = c.args in
    let f = c.requires in
    let k = place-fits c.loop-p.p a.n a.s c.loop-p-test.true in
    (omega (arith, k, f.0.bytes), omega (arith, k, f.1.bytes), omega (arith, k, c.loop-p.invariant.sized.bytes))

pub bounds-map3-p : goal.bounds-map3-p
bounds-map3-p c = let e = c.loop-p.invariant.sized.marks in omega arith

pub loop-p-preserved : goal.loop-p-preserved
loop-p-preserved c =
    let a = c.args in
    let f = c.requires in
    let l = c.loop-p in
    let more = c.loop-p-test.true in
    let h = c.hear.ensures in
    let long = packet-sized (get_or a.map1.now l.p 0) (get_or a.map2.now l.p 0) (part_at a.s l.p a.block1.now) (part_at a.s l.p a.block2.now) a.s
    (part-sized a.n a.s a.block1.now f.0.bytes l.p more) (part-sized a.n a.s a.block2.now f.1.bytes l.p more) in
    (one-filled _ _ _ _ _ _ l.p l.block3 l.map3 l.invariant more _ _ h.packet long h.kind)

pub returns : goal.returns
returns c = let l = c.loop-p in
    record { block = block-filled _ _ _ _ _ _ l.p l.block3 l.map3 l.invariant (omega arith); kinds = map-filled _ _ _ _ _ _ l.p l.block3 l.map3 l.invariant (omega arith) }
