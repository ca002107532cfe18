-- A mask against a column: the parity of the ones they share.
use Rattle.std.specs.Prelude.{Bool, ℕ, ◌%◌}
use Rattle.std.specs.Int.Bits.{bit_and}
use Rattle.std.specs.Int.Count.{ones}
use Rattle.gf2.specs.Gf2.{odd}

unfoldable pub dot : ℕ → ℕ → Bool
dot m x = odd (ones (bit_and m x) % 2)
