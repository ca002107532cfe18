-- `running::run` meets its contract: the slots are what the steps so far give, and the count is theirs.
use Rattle.std.proofs.Common.{◌-◌, ◌≤◌}
use Rattle.running.specs.Running.{Ran}
use Rattle.running.proofs.run.Given as goal

abbrev pub invariant-loop-i : goal.invariant-loop-i
invariant-loop-i l = record {
  ran : Ran l.plan.words.now l.s l.i l.additions l.initial.block l.initial.scratch l.block l.scratch;
  upto : l.i ≤ l.steps;
}

abbrev pub decreases-loop-i : goal.decreases-loop-i
decreases-loop-i l = l.steps - l.i
