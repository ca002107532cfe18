-- `packets::store` meets its contract: after i turns, i bytes are written.
use mathlib.Core.Path.{◌≡◌, refl}
use native.Mathlib.Omega.{arith}
use lib.ListN.{length}
use Rattle.packets.proofs.Buffers.{none, turn, stored}
use Rattle.packets.proofs.store.Goals as goal

pub loop-i-init : goal.loop-i-init
loop-i-init c = (omega arith, none _ _ _)

pub loop-i-preserved : goal.loop-i-preserved
loop-i-preserved c = (omega arith, turn _ c.loop-i.invariant.1 (omega arith) refl)

pub shape_of-b : goal.shape_of-b
shape_of-b c = c.loop-i.invariant.1.len

pub returns : goal.returns
returns c = let e : c.loop-i.i ≡ length c.args.t.now = omega arith in stored _ _ c.args.t.now _ c.requires (rw e at c.loop-i.invariant.1)
