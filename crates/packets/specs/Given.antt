-- Places and a block, as a check's sum is taken from them.
use Rattle.std.specs.Prelude.{◌≡◌, List, [], ◌∷◌, ℕ, ◌*◌, ◌<◌, length}
use Rattle.lists.specs.Lists.{All, minus}
use Rattle.table.specs.Packets.{packets, packet_sum}

-- the places lie below n, and b holds n packets of s bytes
pub record Given (places b : List ℕ) (n s : ℕ) : Type 0 where
  pub below : All (λ p. p < n) places
  pub bytes : length b ≡ n * s

-- the sum of their packets, and without the packet at p
abbrev pub sum_at : List ℕ → List ℕ → ℕ → ℕ → List ℕ
sum_at places b n s = packet_sum s (packets s n b) places

abbrev pub sum_without : List ℕ → List ℕ → ℕ → ℕ → ℕ → List ℕ
sum_without places b n s p = packet_sum s (packets s n b) (minus places (p ∷ []))
