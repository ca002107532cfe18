-- `packets::restore` meets its contract: after each turn, the bytes passed of the packet at p are those of the sum.
use mathlib.Core.Path.{refl, ◌∙◌}
use native.Mathlib.Omega.{arith}
use Rattle.packets.proofs.Buffers.{none}
use Rattle.packets.proofs.Others.{same_check}
use Rattle.packets.proofs.Gathering.{piece-more, all-written}
use Rattle.packets.proofs.restore.Goals as goal

pub loop-i-init : goal.loop-i-init
loop-i-init c = (omega arith, (refl, λ ok in-n. none _ _ _))

pub restore_chunk-requires : goal.restore_chunk-requires
restore_chunk-requires c = (same_check _ _ _ _ _ c.loop-i.invariant.1.0 c.requires.0, (c.requires.1, omega arith))

pub loop-i-preserved : goal.loop-i-preserved
loop-i-preserved c =
    let l = c.loop-i in
    let r = c.restore_chunk in
    (omega arith, (r.auto.block ∙ l.invariant.1.0, λ ok in-n. piece-more _ _ _ _ _ ok _ in-n l.i 64 _ _ (omega arith) (l.invariant.1.1 ok in-n) r.ensures))

pub restore_rest-requires : goal.restore_rest-requires
restore_rest-requires c = (same_check _ _ _ _ _ c.loop-i.invariant.1.0 c.requires.0, (c.requires.1, (omega arith, omega arith)))

pub shape_of-block : goal.shape_of-block
shape_of-block c = c.restore_rest.auto.block ∙ c.loop-i.invariant.1.0

pub returns : goal.returns
returns c =
    let l = c.loop-i in
    all-written _ _ _ _ _ c.requires.0 _ c.requires.1 l.i _ _ l.invariant.0 (l.invariant.1.1 c.requires.0 c.requires.1) c.restore_rest.ensures
