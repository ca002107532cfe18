-- The checks of a table as code reads them: check j is a run of places behind the weights.
use Rattle.std.specs.Prelude.{◌≡◌, List, [], ◌∷◌, ℕ, zero, suc, ◌+◌, ◌*◌, ◌<◌, ◌≤◌, length, get_or, take, drop}
use Rattle.lists.specs.Lists.{minus}
use Rattle.table.specs.Packets.{packets, packet_sum}

-- the ones of the checks before check j
unfoldable pub offset : List ℕ → ℕ → ℕ
offset t zero = 0
offset t (suc j) = offset t j + get_or t (4 + j) 0

-- check j of a table of m checks
unfoldable pub check : List ℕ → ℕ → ℕ → List ℕ
check t m j = take (get_or t (4 + j) 0) (drop (5 + m + offset t j) t)

-- weight places of t from at: inside t, below n, ascending
pub record Places (t : List ℕ) (at weight n : ℕ) : Type 0 where
  pub room : at + weight ≤ length t
  pub below : (i : ℕ) → i < weight → get_or t (at + i) 0 < n
  pub rising : (i k : ℕ) → i < k → k < weight → get_or t (at + i) 0 < get_or t (at + k) 0

-- where each check's places start
pub record Starts (t : List ℕ) (m : ℕ) (starts : List ℕ) : Type 0 where
  pub room : m ≤ length starts
  pub each : (j : ℕ) → j < m → get_or starts j 0 ≡ 5 + m + offset t j

-- weight places of t from at lie below n, and b holds n packets of s bytes
pub record CheckIn (t : List ℕ) (at weight : ℕ) (b : List ℕ) (n s : ℕ) : Type 0 where
  pub room : at + weight ≤ length t
  pub below : (i : ℕ) → i < weight → get_or t (at + i) 0 < n
  pub bytes : length b ≡ n * s

-- the sum of their packets, and without the packet at p
abbrev pub check_sum : List ℕ → ℕ → ℕ → List ℕ → ℕ → ℕ → List ℕ
check_sum t at weight b n s = packet_sum s (packets s n b) (take weight (drop at t))

abbrev pub others_sum : List ℕ → ℕ → ℕ → List ℕ → ℕ → ℕ → ℕ → List ℕ
others_sum t at weight b n s p = packet_sum s (packets s n b) (minus (take weight (drop at t)) (p ∷ []))
