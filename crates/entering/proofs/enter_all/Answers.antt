-- `entering::enter_all` meets its contract.
use native.Mathlib.Omega.{arith}
use Rattle.packets.specs.Filling.{none_filled, block-filled, map-filled}
use Rattle.table.specs.BufferLaws.{place-fits}
use Rattle.entering.proofs.Going.{entered-more}
use Rattle.entering.proofs.enter_all.Goals as goal

pub loop-p-init : goal.loop-p-init
loop-p-init c = (none_filled _ _ _ _ _ _ c.requires.0)

pub carried-mark-requires : goal.carried-mark-requires
carried-mark-requires c = omega (arith, c.loop-p.invariant.sized.marks)

pub bounds-arrived-p : goal.bounds-arrived-p
bounds-arrived-p c = omega (arith, c.requires.1.marks)

pub overflow_mul-p : goal.overflow_mul-p
overflow_mul-p c = let a = c.args in omega (arith, place-fits c.loop-p.p a.k a.s c.loop-p-test.true, c.requires.0.bytes, c.well_formed)

pub enter-requires : goal.enter-requires
enter-requires c =
    let a = c.args in
    let f = place-fits c.loop-p.p a.k a.s c.loop-p-test.true in
    (omega (arith, f, c.loop-p.invariant.sized.bytes), omega (arith, f, c.requires.1.bytes))

pub bounds-map-p : goal.bounds-map-p
bounds-map-p c = omega (arith, c.loop-p.invariant.sized.marks)

pub loop-p-preserved : goal.loop-p-preserved
loop-p-preserved c =
    let a = c.args in
    let l = c.loop-p in
    let h = c.enter.ensures in
    (entered-more a.n a.k a.s a.block.now a.map.now a.arrivals.now a.arrived.now l.p l.block l.map l.invariant c.loop-p-test.true _ c.carried-mark.ensures c.requires.0 c.requires.1 _ _ h.mark h.packet)

pub returns : goal.returns
returns c = let l = c.loop-p in
    record { block = block-filled _ _ _ _ _ _ l.p l.block l.map l.invariant (omega arith); map = map-filled _ _ _ _ _ _ l.p l.block l.map l.invariant (omega arith) }
