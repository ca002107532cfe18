-- `emit::fit_all` meets its contract: the fitted places that are left.
use Rattle.lists.specs.WroteLaws.{Left}
use Rattle.emit.proofs.Passes.{fits}
use Rattle.emit.proofs.fit_all.Given as goal

abbrev pub invariant-loop-j : goal.invariant-loop-j
invariant-loop-j l = Left l.initial.plan l.at (fits l.n l.g l.fitted l.rows 0) (fits l.n l.g l.fitted l.rows l.j) l.plan l.k
