-- `bits::add_low` meets its contract: the loop has added i words.
use Rattle.bits.proofs.Words.{wrote_none, both-turn}
use Rattle.bits.proofs.TopWord.{added-low}
use native.Mathlib.Omega.{arith}
use Rattle.bits.proofs.add_low.Goals as goal

pub loop-i-init : goal.loop-i-init
loop-i-init c = wrote_none _ _ _

pub loop-i-preserved : goal.loop-i-preserved
loop-i-preserved c = let l = c.requires.2 in both-turn _ _ _ _ c.requires.1 (omega arith) c.loop-i.invariant

pub returns : goal.returns
returns c = let p = c.requires in added-low _ _ _ c.args.l c.loop-i.i (omega arith) (omega arith) p.3 c.loop-i.invariant
