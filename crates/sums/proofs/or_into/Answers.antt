-- `sums::or_into` meets its contract: the bytes passed are zero only where both were.
use native.Mathlib.Omega.{arith}
use Prim.Native.Nat.{◌<◌}
use lib.ListN.{length}
use Rattle.sums.proofs.Sums.{or-none, or_turn, or-done}
use Rattle.sums.proofs.or_into.Goals as goal

pub loop-i-init : goal.loop-i-init
loop-i-init c = or-none _ _

pub bounds-a-i : goal.bounds-a-i
bounds-a-i c = omega (arith, c.loop-i.invariant.len, c.requires)

pub loop-i-preserved : goal.loop-i-preserved
loop-i-preserved c = let h : c.loop-i.i < length c.loop-i.o = omega (arith, c.loop-i.invariant.len) in or_turn _ _ _ c.loop-i.i h c.loop-i.invariant

pub returns : goal.returns
returns c = or-done _ _ _ c.loop-i.i c.requires (omega (arith, c.loop-i.invariant.len)) c.loop-i.invariant
