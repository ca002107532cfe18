-- `tracing::take_checks` meets its contract: `Takes` holds at each turn.
use Rattle.tracing.proofs.Taking.{Takes}
use Rattle.tracing.proofs.take_checks.Given as goal

abbrev pub invariant-loop-i : goal.invariant-loop-i
invariant-loop-i l = Takes l.table.words.now l.table.checks l.table.places l.lost l.initial.ids l.w l.owner l.feed l.ids l.k l.i l.at
