-- The staircase in rows of bits: the first c rows have it, the others are as they were.
use Rattle.std.specs.Prelude.{◌≡◌, List, ℕ, ◌<◌, ◌≤◌, length}
use Rattle.std.specs.Int.Bits.{bit_xor}
use Rattle.gf2.specs.Gf2.{row_of}
use Rattle.bits.specs.Row.{row}
use Rattle.staircase.specs.Stairs.{stair}

pub record Staired (k c : ℕ) (w e : List ℕ) : Type 0 where
  pub len : length e ≡ length w
  pub done : (r : ℕ) → r < c → row e r ≡ bit_xor (row w r) (row_of (stair k r))
  pub rest : (r : ℕ) → c ≤ r → row e r ≡ row w r
