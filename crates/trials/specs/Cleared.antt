-- What a trial asks of block and map.
use Rattle.std.specs.Prelude.{◌≡◌, List, ℕ, ◌*◌, length}
use Rattle.erasure.specs.Restoring.{zero_lost}
use Rattle.table.specs.Packets.{packets, joined}

-- a block and a map that fit, with lost places zero
pub record Cleared (n s : ℕ) (b map : List ℕ) : Type 0 where
  pub bytes : length b ≡ n * s
  pub marks : length map ≡ n
  pub zero : b ≡ joined (zero_lost s map (packets s n b))
