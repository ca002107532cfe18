-- `settle::settle_all` meets its contract: `Settles` holds at each turn.
use Rattle.settle.proofs.Settling.{Settles}
use Rattle.settle.proofs.settle_all.Given as goal

abbrev pub invariant-loop-p : goal.invariant-loop-p
invariant-loop-p l = Settles l.s l.n l.initial.w l.initial.owner l.initial.block l.initial.map l.w l.owner l.block l.map l.p
