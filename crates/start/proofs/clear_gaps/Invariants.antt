-- `start::clear_gaps` meets its contract: the gaps before the information places that are passed are done.
use Rattle.start.specs.Start.{GapsCleared}
use Rattle.start.proofs.clear_gaps.Given as goal

abbrev pub invariant-loop-place : goal.invariant-loop-place
invariant-loop-place l = GapsCleared l.plan.words.now l.marks l.s l.place-index l.low l.initial.block l.block
