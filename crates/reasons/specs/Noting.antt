-- What elimination notes of which rows fed a row, and bits as places.
use Rattle.std.specs.Prelude.{◌≡◌, Bool, false, List, [], map, ℕ, ◌<◌, length, get_or}
use Rattle.gf2.specs.Gf2.{xor_group, bit, is_zero, onto, sums, Lead, rows_of, path}
use Rattle.lists.specs.Lists.{from, filter}
use Rattle.reasons.specs.Mirror.{mirror}
use Rattle.reasons.specs.Trace.{Fed}

-- ---- a choice by bits
-- the bits of y below k, as a mask
abbrev pub bits_below : ℕ → ℕ → List Bool
bits_below k y = map (λ i. bit i y) (from 0 k)

-- ---- what elimination leaves: F has the row that leads a place, rows have numbers in the order in which they were taken, U the checks
-- that they came from; f is a check's own row
pub record Kept (n : ℕ) (f : ℕ → ℕ) (U : List ℕ) (F row feed : ℕ → ℕ) : Type 0 where
  pub lead : Lead F
  pub same : (x : ℕ) → sums (rows_of F n) x ≡ sums (onto xor_group is_zero f [] U) x
  pub fed : Fed xor_group row (λ k. f (get_or U k 0)) feed (length U)

-- the row that leads a place, by its number
pub record Numbered (F row num : ℕ → ℕ) (k : ℕ) : Type 0 where
  pub is : (q : ℕ) → is_zero (F q) ≡ false → F q ≡ row (num q)
  pub few : (q : ℕ) → is_zero (F q) ≡ false → num q < k

-- the numbers of the rows that are added while x goes down
abbrev pub noted : ℕ → (ℕ → ℕ) → (ℕ → ℕ) → ℕ → List ℕ
noted n F num x = map num (path F n x)

-- the places that bits, mirrored, have
abbrev pub places_of : ℕ → (ℕ → Bool) → List ℕ
places_of n d = filter (λ q. d (mirror n q)) (from 0 n)
