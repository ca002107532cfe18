-- `eliminate::take_all` meets its contract: `Takes` holds at each turn.
use Rattle.eliminate.proofs.Turning.{Takes}
use Rattle.eliminate.proofs.take_all.Given as goal

abbrev pub invariant-loop-i : goal.invariant-loop-i
invariant-loop-i l = Takes l.table.words.now l.table.checks l.table.places l.table.size l.initial.block l.map l.w l.owner l.block l.k l.i l.at
