-- What walks over the numbers of a text say. Each speaks of every list of numbers that lies ahead of its cursor.
use Rattle.std.specs.Prelude.{◌≡◌, List, ℕ, zero, suc, ◌≤◌, ◌<◌, length, get_or, take, drop}
use Rattle.numbers.specs.Cursor.{Ahead}

-- ---- numbers
-- r is f of the count numbers from at on
abbrev pub Tells : {X : Type 0} → List ℕ → ℕ → ℕ → (List ℕ → X) → X → Type 0
Tells text at count f r = (l : List ℕ) → Ahead text at l → count ≤ length l → r ≡ f (take count l)

-- r is behind the count numbers from at on
abbrev pub Skips : List ℕ → ℕ → ℕ → ℕ → Type 0
Skips text at count r = (l : List ℕ) → Ahead text at l → count ≤ length l → Ahead text r (drop count l)

-- ---- lists of width numbers, whose weights stand elsewhere
-- behind i lists
abbrev pub after : ℕ → ℕ → List ℕ → List ℕ
after zero width l = l
after (suc i) width l = drop width (after i width l)

-- the entries of list j
abbrev pub list_at : ℕ → List ℕ → List ℕ → ℕ → List ℕ
list_at width ws l j = take (get_or ws j 0) (after j width l)

-- what lies ahead of two cursors: the weights ws, and as many lists of width numbers, none of greater weight
pub record ListsAhead (text : List ℕ) (weights at count width : ℕ) (ws l : List ℕ) : Type 0 where
  pub weights-ahead : Ahead text weights ws
  pub enough : count ≤ length ws
  pub lists-ahead : Ahead text at l
  pub room : (i : ℕ) → i < count → width ≤ length (after i width l)
  pub within : (i : ℕ) → i < count → get_or ws i 0 ≤ width
