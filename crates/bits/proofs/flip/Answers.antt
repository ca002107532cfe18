-- `bits::flip` meets its contract.
use Rattle.bits.proofs.Words.{flipped}
use native.Mathlib.Omega.{arith}
use Rattle.bits.proofs.flip.Goals as goal

pub returns : goal.returns
returns c = flipped _ _ _ (omega arith) (omega arith)
