-- `bits::clear` meets its contract.
use Rattle.bits.proofs.Words.{cleared}
use native.Mathlib.Omega.{arith}
use lib.ListN.{length-take, length-drop}
use Prim.Native.Nat.{ℕ}
use Rattle.std.proofs.Common.{rules}
use Rattle.bits.proofs.clear.Goals as goal

pub returns : goal.returns
returns c = cleared _ _ _ _ _ c.requires (omega arith) (omega (arith, length-take {A = ℕ}, length-drop {A = ℕ})) (c.fill.ensures.after (search rules))
