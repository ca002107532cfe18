-- `packets::mix` meets its contract: after i turns, i bytes are added.
use mathlib.Core.Path.{◌≡◌, ap}
use native.Mathlib.Omega.{arith}
use lib.ListN.{length, get_or}
use Rattle.packets.proofs.Buffers.{none, turn, mix-done}
use lib.Bits.{bit_xor}
use Rattle.packets.proofs.mix.Goals as goal

pub loop-i-init : goal.loop-i-init
loop-i-init c = (omega arith, none _ _ _)

pub loop-i-preserved : goal.loop-i-preserved
loop-i-preserved c = (omega arith, let p = c.loop-i.invariant.1 in turn _ p (omega arith) (ap (λ v. bit_xor v (get_or c.args.t.now c.loop-i.i 0)) (p.above _ (omega arith))))

pub shape_of-b : goal.shape_of-b
shape_of-b c = c.loop-i.invariant.1.len

pub returns : goal.returns
returns c = let e : c.loop-i.i ≡ length c.args.t.now = omega arith in mix-done _ _ c.args.t.now _ c.requires (rw e at c.loop-i.invariant.1)
