-- `bits::add_from` meets its contract: the loop has added i words.
use Rattle.bits.proofs.Words.{wrote_none, across-turn, added-across}
use mathlib.Core.Path.{◌≡◌}
use native.Mathlib.Omega.{arith}
use Rattle.bits.proofs.add_from.Goals as goal

pub loop-i-init : goal.loop-i-init
loop-i-init c = wrote_none _ _ _

pub loop-i-preserved : goal.loop-i-preserved
loop-i-preserved c = across-turn _ _ _ _ _ c.requires.0 (omega arith) c.loop-i.invariant

pub returns : goal.returns
returns c = let e : c.loop-i.i ≡ 16 = omega arith in added-across _ _ _ _ (rw e at c.loop-i.invariant)
