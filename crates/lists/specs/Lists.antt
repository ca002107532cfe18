-- Lists and tests: what the definitions of every crate are made of.
use Rattle.std.specs.Prelude.{◌≡◌, Bool, true, false, cond, not, ◌||◌, ◌&&◌, List, [], ◌∷◌, ◌++◌, ℕ, zero, suc, ◌+◌, ◌≤◌, eqb, length, take, drop}
use Rattle.std.proofs.Math.Option.{Option, none, some}

-- ---- tests
-- exactly one of two
abbrev pub bxor : Bool → Bool → Bool
bxor true true = false
bxor true false = true
bxor false b = b

-- every member passes
abbrev pub all_pass : {X : Type 0} → (X → Bool) → List X → Bool
all_pass f [] = true
all_pass f (x ∷ l) = f x && all_pass f l

-- some member passes
abbrev pub any_of : {A : Type 0} → (A → Bool) → List A → Bool
any_of p [] = false
any_of p (x ∷ l) = p x || any_of p l

-- the same numbers in the same order
abbrev pub same_list : List ℕ → List ℕ → Bool
same_list [] [] = true
same_list [] (y ∷ b) = false
same_list (x ∷ a) [] = false
same_list (x ∷ a) (y ∷ b) = eqb x y && same_list a b

-- the highest below k that passes
abbrev pub highest : ℕ → (ℕ → Bool) → Option ℕ
highest zero f = none
highest (suc k) f = elim (f k) [ true ↦ some k | false ↦ highest k f ]

-- how many members pass
abbrev pub count : {X : Type 0} → (X → Bool) → List X → ℕ
count f [] = 0
count f (x ∷ l) = elim (f x) [ true ↦ suc (count f l) | false ↦ count f l ]

-- ---- members
-- p is a member
abbrev pub has : ℕ → List ℕ → Bool
has p [] = false
has p (q ∷ c) = eqb p q || has p c

-- no number stands there twice
abbrev pub all_differ : List ℕ → Bool
all_differ [] = true
all_differ (x ∷ l) = not (has x l) && all_differ l

-- p stands there an odd number of times
abbrev pub par : ℕ → List ℕ → Bool
par p [] = false
par p (q ∷ c) = bxor (eqb p q) (par p c)

-- x is a member
pub data In {X : Type 0} (x : X) : List X → Type 0 where
  here : {l : List X} → In x (x ∷ l)
  there : {y : X} {l : List X} → In x l → In x (y ∷ l)

-- P holds of every member
pub data All {X : Type 0} (P : X → Type 0) : List X → Type 0 where
  nil : All P []
  cons : {x : X} {l : List X} → P x → All P l → All P (x ∷ l)

-- no number stands there twice
pub data Distinct : List ℕ → Type 0 where
  dnil : Distinct []
  dnew : {x : ℕ} {l : List ℕ} → has x l ≡ false → Distinct l → Distinct (x ∷ l)

-- strictly ascending, from b on
pub data Up : ℕ → List ℕ → Type 0 where
  unone : {b : ℕ} → Up b []
  uthen : {b x : ℕ} {l : List ℕ} → b ≤ x → Up (suc x) l → Up b (x ∷ l)

-- ---- lists from lists
-- the members that pass, in their order
abbrev pub filter : (ℕ → Bool) → List ℕ → List ℕ
filter f [] = []
filter f (x ∷ l) = cond (f x) (x ∷ filter f l) (filter f l)

-- c without the members of F
abbrev pub minus : List ℕ → List ℕ → List ℕ
minus c F = filter (λ p. not (has p F)) c

-- from the last to the first
abbrev pub rev : {X : Type 0} → List X → List X
rev [] = []
rev (x ∷ l) = rev l ++ (x ∷ [])

-- the numbers below k, from the highest down
abbrev pub below : ℕ → List ℕ
below zero = []
below (suc k) = k ∷ below k

-- c numbers from i on
unfoldable pub from : ℕ → ℕ → List ℕ
from i zero = []
from i (suc c) = i ∷ from (suc i) c

-- b with x written from at on
abbrev pub written : List ℕ → ℕ → List ℕ → List ℕ
written b at x = take at b ++ (x ++ drop (at + length x) b)

-- e is b with ws from at on, and r the next place
pub record Wrote (b : List ℕ) (at : ℕ) (ws e : List ℕ) (r : ℕ) : Type 0 where
  pub list : e ≡ written b at ws
  pub next : r ≡ at + length ws
