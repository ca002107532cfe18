-- `start::past` meets its contract: the packets passed are all marked, or none is.
use Rattle.std.proofs.Common.{◌≡◌, ℕ, ◌+◌, ◌<◌, ◌≤◌}
use Rattle.plan.specs.LookOver.{is_marked}
use Rattle.start.proofs.past.Given as goal

abbrev pub invariant-loop-r : goal.invariant-loop-r
invariant-loop-r l = (k : ℕ) → k < l.r → l.i ≤ k → is_marked l.marks (l.first + k) ≡ l.marked
