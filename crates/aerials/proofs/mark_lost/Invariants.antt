-- `aerials::mark_lost` meets its contract.
use Rattle.aerials.proofs.Filling.{Marked}
use Rattle.aerials.proofs.mark_lost.Given as goal

abbrev pub invariant-loop-kind : goal.invariant-loop-kind
invariant-loop-kind l = Marked l.initial.map l.kind-index l.map
