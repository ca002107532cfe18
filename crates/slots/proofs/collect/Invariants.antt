-- `slots::collect` meets its contract: the sources passed are listed, and their parts added.
use Rattle.std.proofs.Common.{◌≡◌, take}
use Rattle.slots.specs.Runs.{sources_of}
use Rattle.slots.specs.Slots.{PartsAdded}
use Rattle.slots.proofs.StepLaws.{Passed}
use Rattle.slots.proofs.collect.Given as goal

abbrev pub invariant-loop-count : goal.invariant-loop-count
invariant-loop-count l = record {
  added : PartsAdded l.n l.s (take l.count (sources_of l.plan l.first l.end l.to)) 0 l.block l.scratch l.initial.acc l.acc;
  listed : take l.count l.sources ≡ take l.count (sources_of l.plan l.first l.end l.to);
  passed : Passed l.plan l.first l.end l.to l.count;
}
