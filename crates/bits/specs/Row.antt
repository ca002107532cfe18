-- Rows of 16 words in a list of 64-bit words, as the numbers of the algebra.
use Rattle.std.specs.Prelude.{◌≡◌, List, map, ℕ, zero, suc, ◌+◌, ◌*◌, ◌/◌, ◌%◌, ◌^◌, length, get_or}
use Rattle.gf2.specs.Gf2.{bit}
use Rattle.std.specs.declared.option.Option.{Option}
use Rattle.std.specs.declared.option.Option.TheVariants.{None, Some}
use Rattle.lists.specs.Lists.{filter, from}

-- k words of s bits, the first the lowest
unfoldable pub num : ℕ → (ℕ → ℕ) → ℕ → ℕ
num s f zero = 0
num s f (suc k) = num s (λ j. f (suc j)) k * 2 ^ s + f 0 % 2 ^ s

-- row r
unfoldable pub row : List ℕ → ℕ → ℕ
row w r = num 64 (λ j. get_or w (r * 16 + j) 0) 16

-- the places of a row, ascending, and those of the first m rows
abbrev pub places_in : ℕ → List ℕ
places_in x = filter (λ p. bit p x) (from 0 1024)

abbrev pub rows_in : List ℕ → ℕ → List (List ℕ)
rows_in w m = map (λ r. places_in (row w r)) (from 0 m)

-- one more than the highest place, 0 for none
abbrev pub above : Option ℕ → ℕ
above None = 0
above (Some p) = p + 1

-- e is w with x as row r
pub record RowPut (w : List ℕ) (r x : ℕ) (e : List ℕ) : Type 0 where
  pub len : length e ≡ length w
  pub here : row e r ≡ x
  pub rest : (j : ℕ) → (j / 16 ≡ r → ⊥) → get_or e j 0 ≡ get_or w j 0
