-- The checks that have restored a place.
use Rattle.std.specs.Prelude.{◌≡◌, List, ℕ, ◌<◌, ◌≤◌, length, get_or, replicate}
use Rattle.table.specs.Checks.{check}
use Rattle.table.specs.Packets.{packets, packet_sum}
use Rattle.erasure.specs.Restoring.{lost_places}

-- every check that is marked 1 has no lost place, and its packets sum to zero
pub record Spent (t : List ℕ) (m n s : ℕ) (b lost used : List ℕ) : Type 0 where
  pub room : m ≤ length used
  pub each : (j : ℕ) → j < m → get_or used j 0 ≡ 1 → (length (lost_places lost (check t m j)) ≡ 0) × (packet_sum s (packets s n b) (check t m j) ≡ replicate s 0)
