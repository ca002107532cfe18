-- `start::clear_unmarked` meets its contract: the packets below i are done, the others as they were.
use Rattle.std.proofs.Common.{◌-◌, ◌≤◌}
use Rattle.start.specs.Start.{GapCleared}
use Rattle.start.proofs.clear_unmarked.Given as goal

abbrev pub invariant-loop-i : goal.invariant-loop-i
invariant-loop-i l = record {
  cleared : GapCleared l.marks l.s l.first l.low l.i l.initial.b l.b;
  from : l.low ≤ l.i;
  upto : l.i ≤ l.high;
}

abbrev pub decreases-loop-i : goal.decreases-loop-i
decreases-loop-i l = l.high - l.i
