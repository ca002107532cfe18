-- `start::mark_cleared` meets its contract: the marks are those of the steps from i on.
use Rattle.std.proofs.Common.{take, drop}
use Rattle.plan.specs.Layout.{steps_of}
use Rattle.start.specs.Start.{Marked}
use Rattle.start.proofs.mark_cleared.Given as goal

abbrev pub invariant-loop-i : goal.invariant-loop-i
invariant-loop-i l = Marked (drop l.i (take l.steps (steps_of l.plan.words.now))) l.marks
