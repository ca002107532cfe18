-- `runs::add_rest` meets its contract: after each turn, the bytes passed of the slot are what the run gives.
use Rattle.std.proofs.Common.{◌-◌, ◌≤◌}
use Rattle.slots.specs.Slots.{Gathers}
use Rattle.runs.proofs.add_rest.Given as goal

abbrev pub invariant-loop-off : goal.invariant-loop-off
invariant-loop-off l = record {
  gathers : Gathers l.n l.s l.fresh l.to l.sources l.initial.off l.off l.initial.block l.initial.scratch l.block l.scratch;
  inside : l.off ≤ l.s;
}

abbrev pub decreases-loop-off : goal.decreases-loop-off
decreases-loop-off l = l.s - l.off

abbrev pub invariant-loop-off-2 : goal.invariant-loop-off-2
invariant-loop-off-2 l = record {
  gathers : Gathers l.n l.s l.fresh l.to l.sources l.initial.off l.off l.initial.block l.initial.scratch l.block l.scratch;
  inside : l.off ≤ l.s;
}

abbrev pub decreases-loop-off-2 : goal.decreases-loop-off-2
decreases-loop-off-2 l = l.s - l.off
