-- `keep::keep` meets its contract: `Keeps` holds at each turn.
use Rattle.keep.proofs.Keeping.{Keeps}
use Rattle.keep.proofs.keep.Given as goal

abbrev pub invariant-loop-i : goal.invariant-loop-i
invariant-loop-i l = Keeps l.table.words.now l.table.checks l.table.places l.initial.ids l.w l.owner l.ids l.k l.i l.at
