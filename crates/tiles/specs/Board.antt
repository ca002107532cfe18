-- A board of 1,024 rows of 1,024 bits, and what flipping its bits by the numbers of a text comes to.
use Rattle.std.specs.Prelude.{◌≡◌, Bool, true, false, ◌&&◌, List, ℕ, suc, ◌+◌, ◌*◌, ◌<◌, eqb, ltb, length}
use Rattle.lists.specs.Lists.{bxor, par}
use Rattle.gf2.specs.Gf2.{bit}
use Rattle.bits.specs.Row.{row}
use Rattle.tiles.specs.declared.Axis.{Axis}
use Rattle.tiles.specs.declared.Axis.TheVariants.{Columns, Rows}

-- bit q of row i
abbrev pub on : List ℕ → ℕ → ℕ → Bool
on w i q = bit q (row w i)

-- every bit is 0
abbrev pub Blank : List ℕ → Type 0
Blank w = (i q : ℕ) → i < 1024 → q < 1024 → on w i q ≡ false

-- e is w with the bits flipped that f names
pub record Flips (w : List ℕ) (f : ℕ → ℕ → Bool) (e : List ℕ) : Type 0 where
  pub len : length e ≡ length w
  pub each : (i q : ℕ) → i < 1024 → q < 1024 → on e i q ≡ bxor (f i q) (on w i q)

-- ---- the bits that numbers name
-- by the number alone, 1,024 to a row: the numbers that stand in l an odd number of times
abbrev pub named : List ℕ → ℕ → ℕ → Bool
named l i q = par (i * 1024 + q) l

-- list j's bits stand in column j, one for each number from low + 1 to low + span
abbrev pub in_column : ℕ → ℕ → ℕ → (ℕ → Bool) → ℕ → ℕ → Bool
in_column low span j f i q = eqb q j && (ltb i span && f (low + suc i))

-- count lists, list q in column q
abbrev pub in_columns : ℕ → ℕ → ℕ → (ℕ → List ℕ) → ℕ → ℕ → Bool
in_columns low span count f i q = ltb q count && (ltb i span && par (low + suc i) (f q))

-- whether lists stand in columns
abbrev pub by_columns : Axis → Bool
by_columns Columns = true
by_columns Rows = false

-- lists stand in columns, or else in rows
abbrev pub turned : Bool → (ℕ → ℕ → Bool) → ℕ → ℕ → Bool
turned true f i q = f i q
turned false f i q = f q i

-- ---- agreement
-- b tells whether P holds
pub record Decides (b : Bool) (P : Type 0) : Type 0 where
  pub yes : b ≡ true → P
  pub no : P → b ≡ true

-- rows r to r + k - 1 and the columns below n name each other an odd number of times, or neither does; g counts rows from r on
abbrev pub BandAgrees : ℕ → ℕ → ℕ → (ℕ → List ℕ) → (ℕ → List ℕ) → Type 0
BandAgrees n r k f g = (i j : ℕ) → i < k → j < n → par (r + suc i) (f j) ≡ par (suc j) (g i)
