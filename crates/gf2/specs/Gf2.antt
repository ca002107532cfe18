-- Arithmetic over GF(2): sums in which everything is its own inverse, numbers as rows of bits, and rows that are sums of rows.
use Rattle.std.specs.Prelude.{◌≡◌, refl, Bool, true, false, ◌||◌, List, [], ◌∷◌, map, ℕ, zero, suc, ◌+◌, ◌-◌, ◌*◌, ◌/◌, ◌%◌, ◌^◌, ◌<◌, ◌≤◌, eqb}
use Rattle.std.specs.Int.Bits.{bit_xor, xor_self, xor_zero_l}
use Rattle.std.proofs.lemmas.Nat.{xor_comm}
use Rattle.lists.specs.Lists.{bxor, below}
use Rattle.lists.specs.Tests.{bxor-assoc, bxor-comm, bxor-self}
use Rattle.gf2.specs.Xor.{bit_xor-assoc}

-- ---- sums
-- a commutative group in which every element is its own inverse
pub record Group2 (A : Type 0) : Type 0 where
  infixl 60 ◌⊕◌
  pub ◌⊕◌ : A → A → A
  pub o : A
  pub assoc : (a b c : A) → (a ⊕ b) ⊕ c ≡ a ⊕ (b ⊕ c)
  pub comm : (a b : A) → a ⊕ b ≡ b ⊕ a
  pub self : (a : A) → a ⊕ a ≡ o
  pub zl : (a : A) → o ⊕ a ≡ a

-- bits by exclusive-or
abbrev pub bool_group : Group2 Bool
bool_group = record { ◌⊕◌ = bxor; o = false; assoc = bxor-assoc; comm = bxor-comm; self = bxor-self; zl = λ a. refl }

-- numbers by exclusive-or of their bits
abbrev pub xor_group : Group2 ℕ
xor_group = record { ◌⊕◌ = bit_xor; o = 0; assoc = bit_xor-assoc; comm = xor_comm; self = xor_self; zl = xor_zero_l }

module _ {A : Type 0} (G : Group2 A) where
  open G use {◌⊕◌, o}

  -- the sum of f over a list
  module _ {X : Type 0} where
    abbrev pub sum_over : (X → A) → List X → A
    sum_over f [] = o
    sum_over f (x ∷ l) = f x ⊕ sum_over f l

  -- lists of one length, added place by place
  abbrev pub add : List A → List A → List A
  add [] ys = []
  add (x ∷ xs) [] = []
  add (x ∷ xs) (y ∷ ys) = (x ⊕ y) ∷ add xs ys

-- ---- rows: a number is the row of its binary digits, place p worth 2 ^ p
abbrev pub odd : ℕ → Bool
odd zero = false
odd (suc n) = true

-- row r has place p
abbrev pub bit : ℕ → ℕ → Bool
bit zero r = odd (r % 2)
bit (suc p) r = bit p (r / 2)

-- the row without a place
abbrev pub is_zero : ℕ → Bool
is_zero x = eqb x 0

-- the row of these places
abbrev pub row_of : List ℕ → ℕ
row_of c = sum_over xor_group (λ (p : ℕ). 2 ^ p) c

-- a digit as a number
abbrev pub num : Bool → ℕ
num true = 1
num false = 0

-- column p of the rows E: its digit i is place p of row i, the first row the lowest digit
abbrev pub column : List ℕ → ℕ → ℕ
column [] p = 0
column (e ∷ E) p = column E p * 2 + num (bit p e)

-- ---- sums of some of the rows
module _ {A : Type 0} (G : Group2 A) where
  open G use {◌⊕◌, o}

  -- the sum of the rows that a mask names, a bit for each row
  abbrev pub comb : List Bool → List A → A
  comb m [] = o
  comb [] (r ∷ R) = o
  comb (true ∷ m) (r ∷ R) = r ⊕ comb m R
  comb (false ∷ m) (r ∷ R) = comb m R

  -- x is the sum of some of the rows: without the first row or with it
  module _ (is_zero : A → Bool) where
    abbrev pub is_sum : List A → A → Bool
    is_sum [] x = is_zero x
    is_sum (r ∷ R) x = let b = is_sum R (r ⊕ x) in is_sum R x || b

-- labels in order, each taken unless its row is the sum of rows in K and of some already taken
module _ {A : Type 0} (G : Group2 A) (is_zero : A → Bool) {X : Type 0} (f : X → A) where
  abbrev pub choose : List A → List X → List X
  choose K [] = []
  choose K (x ∷ xs) = elim (is_sum G is_zero K (f x)) [ true ↦ choose K xs | false ↦ x ∷ choose (f x ∷ K) xs ]

  -- the rows in K with those of the labels put in front, one by one
  abbrev pub onto : List A → List X → List A
  onto K [] = K
  onto K (x ∷ xs) = onto (f x ∷ K) xs

-- which of the rows R sum to x: a row is left out where x is a sum of the rest
abbrev pub mask_for : List ℕ → ℕ → List Bool
mask_for [] x = []
mask_for (r ∷ R) x = elim (is_sum xor_group is_zero R x) [ true ↦ false ∷ mask_for R x | false ↦ true ∷ mask_for R (bit_xor r x) ]

-- ---- rows by their highest places
-- x has no place from l on
pub record Short (l x : ℕ) : Type 0 where
  pub above : (q : ℕ) → l ≤ q → bit q x ≡ false

-- l is one more than the highest place of x, 0 if it has none
pub record Bits (x l : ℕ) : Type 0 where
  pub most : Short l x
  pub last : 0 < l → bit (l - 1) x ≡ true

-- f p is the row whose highest place is p, 0 for none
pub record Lead (f : ℕ → ℕ) : Type 0 where
  pub low : (p q : ℕ) → p < q → bit q (f p) ≡ false
  pub own : (p : ℕ) → is_zero (f p) ≡ false → bit p (f p) ≡ true

-- the rows that lead the places below n
abbrev pub rows_of : (ℕ → ℕ) → ℕ → List ℕ
rows_of f n = map f (below n)

-- x is the sum of some of the rows R
abbrev pub sums : List ℕ → ℕ → Bool
sums R x = is_sum xor_group is_zero R x

-- x from place n - 1 down: the row that leads a place of x is added, until a place of x that no row leads
unfoldable pub down : (ℕ → ℕ) → ℕ → ℕ → ℕ
down f zero x = x
down f (suc p) x = elim (bit p x) [
  | false ↦ down f p x
  | true ↦
      elim (is_zero (f p)) [ true ↦ x | false ↦ down f p (bit_xor (f p) x) ]
]

-- the places that the added rows lead, in that order
unfoldable pub path : (ℕ → ℕ) → ℕ → ℕ → List ℕ
path f zero x = []
path f (suc p) x = elim (bit p x) [
  | false ↦ path f p x
  | true ↦
      elim (is_zero (f p)) [ true ↦ [] | false ↦ p ∷ path f p (bit_xor (f p) x) ]
]
