-- `slots::add_sources` meets its contract: the parts of the slots that are passed are added.
use Rattle.std.proofs.Common.{take}
use Rattle.slots.specs.Slots.{PartsAdded}
use Rattle.slots.proofs.add_sources.Given as goal

abbrev pub invariant-loop-m : goal.invariant-loop-m
invariant-loop-m l = PartsAdded l.n l.s (take l.m l.sources) l.off l.block l.scratch l.initial.acc l.acc
