-- Reading the numbers of a text one after another.
use Rattle.std.specs.Prelude.{◌≡◌, false, List, ◌∷◌, ℕ, ◌+◌, ◌≤◌, ◌<◌, ◌^◌, length, get_or, drop}
use Rattle.std.proofs.Math.Option.{some}
use Rattle.numerals.specs.Numerals.{is_digit}
use Rattle.numbers.specs.Numbers.{is_gap, numbers_in}
use Rattle.numbers.specs.Steps.{numbers_from}

-- the numbers from at on are l
abbrev pub Ahead : List ℕ → ℕ → List ℕ → Type 0
Ahead text at l = numbers_in (drop at text) ≡ some l

-- from at to r there are only blanks and line ends, and at r there is none
pub record Skipped (text : List ℕ) (at r : ℕ) : Type 0 where
  pub same : numbers_from 0 0 (drop at text) ≡ numbers_from 0 0 (drop r text)
  pub stops : r < length text → is_gap (get_or text r 0) ≡ false

-- some digits, at most six, of value v, stand from at to r; the next byte is none, or they are six
pub record Taken (text : List ℕ) (at v r : ℕ) : Type 0 where
  pub digits : ℕ
  pub few : digits ≤ 6
  pub low : v < 10 ^ digits
  pub moved : r ≡ at + digits
  pub same : numbers_from 0 0 (drop at text) ≡ numbers_from digits v (drop r text)
  pub stops : r < length text → digits < 6 → is_digit (get_or text r 0) ≡ false

-- a cursor at at reads the first of the numbers ahead, and goes on to r with the others ahead; what is read is always below a million
pub record Reads (text : List ℕ) (at v r : ℕ) : Type 0 where
  pub small : v < 1000000
  pub first : (x : ℕ) (l : List ℕ) → Ahead text at (x ∷ l) → v ≡ x
  pub others : (x : ℕ) (l : List ℕ) → Ahead text at (x ∷ l) → Ahead text r l
