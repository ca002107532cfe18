-- `masks::fit` meets its contract: `Scan` holds at each turn.
use Rattle.std.proofs.Common.{◌≡◌, ℕ, ◌≤◌, ◌<◌, List, get_or}
use Rattle.masks.specs.Scan.{Scan}
use Rattle.masks.proofs.fit.Given as goal

abbrev pub invariant-loop-p : goal.invariant-loop-p
invariant-loop-p l = record {
  few : l.free ≤ l.g;
  scan : (f : ℕ → ℕ) → (W : List ℕ) → ((q : ℕ) → q < l.n → f q ≡ get_or l.col q 0) → Scan f W l.g l.n l.g l.initial.masks l.initial.fitted → Scan f W l.g l.p l.free l.masks l.fitted;
}
