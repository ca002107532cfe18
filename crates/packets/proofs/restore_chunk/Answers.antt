-- `packets::restore_chunk` meets its contract: what was gathered from zeros is the part of the sum.
use mathlib.Core.Path.{ap, ◌∙◌}
use Prim.Native.Nat.{◌+◌, ◌*◌}
use native.Mathlib.Omega.{arith}
use Rattle.table.specs.BufferLaws.{place-fits}
use Rattle.lists.specs.Lists.{written}
use Rattle.packets.proofs.Gathering.{others-chunk}
use Rattle.packets.proofs.restore_chunk.Goals as goal

pub gather_others-requires : goal.gather_others-requires
gather_others-requires c = (c.requires.0, c.requires.1.1)

pub overflow_mul-p : goal.overflow_mul-p
overflow_mul-p c = omega (arith, place-fits c.args.p c.args.n c.args.s c.requires.1.0, c.requires.0.bytes)

pub overflow_add-p : goal.overflow_add-p
overflow_add-p c = omega (arith, place-fits c.args.p c.args.n c.args.s c.requires.1.0, c.requires.0.bytes, c.requires.1.1)

pub store-requires : goal.store-requires
store-requires c = omega (arith, place-fits c.args.p c.args.n c.args.s c.requires.1.0, c.requires.0.bytes, c.requires.1.1, c.gather_others.auto.acc)

pub shape_of-block : goal.shape_of-block
shape_of-block c = c.store.auto.b

pub returns : goal.returns
returns c =
    c.store.ensures
    ∙ ap (written c.args.block.now (c.args.p * c.args.s + c.args.off)) (others-chunk _ _ _ _ _ c.requires.0 _ _ c.requires.1.1 c.gather_others.ensures)
