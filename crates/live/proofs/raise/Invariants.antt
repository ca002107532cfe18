-- `live::raise` meets its contract: the bound lies above so many places.
use Rattle.std.proofs.Common.{ℕ, ◌≡◌, ◌<◌, ◌≤◌, length, get_or}
use Rattle.live.proofs.raise.Given as goal

abbrev pub invariant-loop-p : goal.invariant-loop-p
invariant-loop-p l = record {
  low : l.top ≤ l.r;
  most : l.r ≤ length l.count;
  above : (i : ℕ) → i < l.p-index → get_or l.count (get_or l.places i 0) 0 ≡ 1 → get_or l.places i 0 < l.r;
}
