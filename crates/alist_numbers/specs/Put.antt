-- Bytes put into a text buffer as far as it reaches, and numbers on a line.
use Rattle.std.specs.Prelude.{◌≡◌, Bool, true, false, List, [], ◌∷◌, ◌++◌, ℕ, suc, ◌+◌, ◌^◌, ◌<◌, ◌≤◌, length}
use Rattle.lists.specs.Lists.{Wrote}
use Rattle.numerals.specs.Numerals.{digits_within, decimal}

-- the bytes w go from at to r; they stand in the text if it reaches so far
pub record Put (text : List ℕ) (at : ℕ) (w text' : List ℕ) (r : ℕ) : Type 0 where
  pub ends : r ≡ at + length w
  pub long : length text' ≡ length text
  pub stands : r ≤ length text → Wrote text at w text' r

-- the bytes w go from the text's beginning to r, but not beyond limit: none is stored, or all
pub record PutBelow (limit : ℕ) (text w text' : List ℕ) (r : ℕ) : Type 0 where
  pub ends : r ≡ length w
  pub none : limit ≡ 0 → text' ≡ text
  pub all : limit ≡ length text → r ≤ length text → Wrote text 0 w text' r

-- x in decimal, by any number of digits that is enough
abbrev pub PutNumber : ℕ → List ℕ → ℕ → List ℕ → ℕ → Type 0
PutNumber x text at text' r = (k : ℕ) → x < 10 ^ suc k → Put text at (digits_within (suc k) x) text' r × (r ≤ at + suc k)

-- what stands before a number: nothing if it is the first of its line, else a blank
abbrev pub gap : Bool → List ℕ
gap true = []
gap false = 32 ∷ []

-- numbers on a line, from its beginning or not
abbrev pub numbers_on : Bool → List ℕ → List ℕ
numbers_on first [] = []
numbers_on first (x ∷ l) = gap first ++ (decimal x ++ numbers_on false l)
