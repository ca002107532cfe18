-- A check's lost places and its sum as one pair of two groups.
use Rattle.std.specs.Prelude.{List, ℕ, get_or}
use Rattle.gf2.specs.Gf2.{Group2, xor_group}
use Rattle.gf2.specs.Group.{fun_group}
use Rattle.decided.specs.Decided.{lost_row, received_sum}

-- packets as functions of the byte
abbrev pub byte_group : Group2 (ℕ → ℕ)
byte_group = fun_group ℕ xor_group

-- a check's lost row with its received sum
abbrev pub pair_of : ℕ → List (List ℕ) → List ℕ → List ℕ → ℕ × (ℕ → ℕ)
pair_of s b lost c = (lost_row lost c, λ j. get_or (received_sum s b lost c) j 0)
