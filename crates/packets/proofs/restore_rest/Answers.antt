-- `packets::restore_rest` meets its contract: what was gathered from zeros is the end of the sum.
use Prim.Native.Nat.{◌+◌, ◌-◌, ◌*◌}
use mathlib.Core.Path.{ap, ◌∙◌}
use native.Mathlib.Omega.{arith}
use lib.ListN.{replicate}
use Rattle.table.specs.BufferLaws.{place-fits}
use Rattle.lists.specs.Lists.{written}
use Rattle.table.specs.GatherLaws.{first-length, back-room, back-length}
use Rattle.packets.proofs.Gathering.{others-rest}
use Rattle.packets.proofs.restore_rest.Goals as goal

pub slice_bounds-gather_others-end : goal.slice_bounds-gather_others-end
slice_bounds-gather_others-end c = first-length (c.args.s - c.args.off) (replicate 64 0) (omega arith)

pub gather_others-requires : goal.gather_others-requires
gather_others-requires c = (c.requires.0, omega (arith, first-length (c.args.s - c.args.off) (replicate 64 0) (omega arith)))

pub overflow_mul-p : goal.overflow_mul-p
overflow_mul-p c = omega (arith, place-fits c.args.p c.args.n c.args.s c.requires.1.0, c.requires.0.bytes)

pub overflow_add-p : goal.overflow_add-p
overflow_add-p c = omega (arith, place-fits c.args.p c.args.n c.args.s c.requires.1.0, c.requires.0.bytes)

pub slice_bounds-acc-end-2 : goal.slice_bounds-acc-end-2
slice_bounds-acc-end-2 c = back-room (c.args.s - c.args.off) (replicate 64 0) (omega arith) c.gather_others.new.acc c.gather_others.auto.acc

pub slice_bounds-store-end : goal.slice_bounds-store-end
slice_bounds-store-end c = back-length (c.args.s - c.args.off) (replicate 64 0) (omega arith) c.gather_others.new.acc c.gather_others.auto.acc

pub store-requires : goal.store-requires
store-requires c = omega (arith, place-fits c.args.p c.args.n c.args.s c.requires.1.0, c.requires.0.bytes, back-length (c.args.s - c.args.off) (replicate 64 0) (omega arith) c.gather_others.new.acc c.gather_others.auto.acc)

pub shape_of-block : goal.shape_of-block
shape_of-block c = c.store.auto.b

pub returns : goal.returns
returns c =
    let g = c.gather_others in
    c.store.ensures
    ∙ ap (written c.args.block.now (c.args.p * c.args.s + c.args.off)) (others-rest _ _ _ _ _ c.requires.0 _ (omega arith) 64 _ (omega arith) g.auto.acc g.ensures)
