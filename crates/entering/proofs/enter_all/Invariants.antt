-- `entering::enter_all` meets its contract.
use Rattle.entering.proofs.Going.{Entered}
use Rattle.entering.proofs.enter_all.Given as goal

abbrev pub invariant-loop-p : goal.invariant-loop-p
invariant-loop-p l = Entered l.n l.k l.s l.initial.block l.initial.map l.arrivals l.arrived l.p l.block l.map
