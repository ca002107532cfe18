-- Checks that sum to zero: the test, and a block that is a codeword.
use Rattle.std.specs.Prelude.{◌≡◌, Bool, List, ℕ, ◌*◌, length, replicate}
use Rattle.lists.specs.Lists.{same_list}
use Rattle.table.specs.Packets.{packets, packet_sum, Codeword as SumsToZero}
use Rattle.table.specs.Table.{places, size, checks}

-- a check whose packets sum to zero bytes
abbrev pub zero_sum : ℕ → List (List ℕ) → List ℕ → Bool
zero_sum s b c = same_list (packet_sum s b c) (replicate s 0)

-- a block of n·s bytes whose packets sum to zero over every check
pub record IsCodeword (t w : List ℕ) : Type 0 where
  pub size_fits : length w ≡ places t * size t
  pub sums : SumsToZero (size t) (checks t) (packets (size t) (places t) w)
