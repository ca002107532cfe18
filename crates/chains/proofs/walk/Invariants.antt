-- `chains::walk` meets its contract.
use Rattle.chains.proofs.Walking.{Walking}
use Rattle.chains.proofs.walk.Given as goal

abbrev pub invariant-loop-i : goal.invariant-loop-i
invariant-loop-i l = Walking l.next l.owner l.first l.initial.count l.bound l.i l.count l.low

abbrev pub decreases-loop-i : goal.decreases-loop-i
decreases-loop-i l = l.i
