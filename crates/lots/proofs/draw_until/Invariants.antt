-- `draw_until` meets its contract: the draws so far did not pass.
use Rattle.std.proofs.Common.{◌≡◌, ℕ, ◌<◌, Bool}
use Rattle.lots.proofs.Seeking.{Goes}
use Rattle.lots.proofs.draw_until.Given as goal

abbrev pub invariant-loop-value : goal.invariant-loop-value
invariant-loop-value g l =
    (f : ℕ → Bool) → ((v : ℕ) (b : Bool) → v < l.max → goal.F-post g l.passes v b → b ≡ f v) → Goes l.max l.fn.draws.raw l.fn.draws.left f l.draws.raw l.draws.left

abbrev pub decreases-loop-value : goal.decreases-loop-value
decreases-loop-value g l = l.draws.left
