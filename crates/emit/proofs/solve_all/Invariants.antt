-- `emit::solve_all` meets its contract: the checks that are left, the last taken first.
use Rattle.lists.specs.WroteLaws.{Left}
use Rattle.emit.proofs.Passes.{solves}
use Rattle.emit.proofs.solve_all.Given as goal

abbrev pub invariant-loop-i : goal.invariant-loop-i
invariant-loop-i l =
    Left l.initial.plan l.at (solves l.skip l.located.table.words.now l.order l.owns l.taken) (solves l.skip l.located.table.words.now l.order l.owns l.i) l.plan l.k
