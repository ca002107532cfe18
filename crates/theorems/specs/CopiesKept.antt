-- Every check of copies of table B is kept.
use Rattle.std.specs.Prelude.{◌≡◌, refl, true, false, List, [], ◌∷◌, ℕ, zero, suc, ◌+◌, ◌<◌, ◌≤◌, eqb, ltb}
use Rattle.std.proofs.Common.{ap, ap₂, ◌∙◌, arith, ltb-true, ne_eqb}
use Rattle.std.specs.Int.Bits.{bit_xor}
use Rattle.lists.specs.ListLaws.{has-par, has-low, all_map, pass_all}
use Rattle.lists.specs.Lists.{all_pass, bxor, has, par, All, All.nil, All.cons}
use Rattle.lists.specs.Tests.{eqb-true, eqb-false, eqb-self, by_bool, or-neither}
use Rattle.gf2.specs.Bit.{bit-adds}
use Rattle.gf2.specs.EchelonLaws.{no-sum}
use Rattle.gf2.specs.Gf2.{bit, is_zero, choose, xor_group, row_of, sums}
use Rattle.gf2.specs.Places.{bit-row}
use Rattle.table.specs.Table.{checks}
use Rattle.rule.specs.Rule.{kept}
use Rattle.theorems.specs.SideBySide.{shifted, copies_from}
use Rattle.theorems.specs.Starred.{table_b}

-- ---- B's checks
abbrev pub one : List ℕ
one = 0 ∷ 1 ∷ 2 ∷ []

abbrev pub two : List ℕ
two = 0 ∷ 1 ∷ 3 ∷ []

abbrev pub three : List ℕ
three = 0 ∷ 2 ∷ 3 ∷ []

-- ---- places that are higher by as much
eqb-shift : (q i a : ℕ) → eqb (q + i) (q + a) ≡ eqb i a
eqb-shift q i a = by_bool (eqb i a)
    (λ e. let z = eqb-true i a e in rw (e, z) (eqb-self (q + a)))
    (λ e. let z = eqb-false i a e in rw e (ne_eqb (q + i) (q + a) (λ s. z (omega arith))))

pub has-shift : (q i : ℕ) (c : List ℕ) → has (q + i) (shifted q c) ≡ has i c
has-shift q i [] = refl
has-shift q i (a ∷ c) = rw (eqb-shift q i a, has-shift q i c)

par-shift : (q i : ℕ) (c : List ℕ) → par (q + i) (shifted q c) ≡ par i c
par-shift q i [] = refl
par-shift q i (a ∷ c) = rw (eqb-shift q i a, par-shift q i c)

-- the row of such a check
bit-shift : (q i : ℕ) (c : List ℕ) → bit (q + i) (row_of (shifted q c)) ≡ par i c
bit-shift q i c = bit-row (q + i) (shifted q c) ∙ par-shift q i c

-- ---- the checks of a copy are kept
-- the rows before have no place from q on
abbrev Before : ℕ → List ℕ → Type 0
Before q K = All (λ r. (p : ℕ) → q ≤ p → bit p r ≡ false) K

module _ (q : ℕ) {K : List ℕ} (b : Before q K) where
  -- the rows of the copy from q on
  abbrev r1 : ℕ
  r1 = row_of (shifted q one)

  abbrev r2 : ℕ
  r2 = row_of (shifted q two)

  abbrev r3 : ℕ
  r3 = row_of (shifted q three)

  -- one that has a place from q on is no sum of rows before
  new : (i x : ℕ) → bit (q + i) x ≡ true → sums K x ≡ false
  new i x h = no-sum (q + i) (all_map (λ r f. f (q + i) (omega arith)) b) x h

  first-new : sums K r1 ≡ false
  first-new = new 2 r1 (bit-shift q 2 one)

  second-new : sums (r1 ∷ K) r2 ≡ false
  second-new = or-neither _ _ (new 3 r2 (bit-shift q 3 two)) (new 3 (bit_xor r1 r2) (bit-adds (q + 3) r1 r2 ∙ ap₂ bxor (bit-shift q 3 one) (bit-shift q 3 two)))

  third-new : sums (r2 ∷ r1 ∷ K) r3 ≡ false
  third-new =
      or-neither _ _
      (or-neither _ _ (new 3 r3 (bit-shift q 3 three)) (new 3 (bit_xor r1 r3) (bit-adds (q + 3) r1 r3 ∙ ap₂ bxor (bit-shift q 3 one) (bit-shift q 3 three))))
      (or-neither _ _ (new 2 (bit_xor r2 r3) (bit-adds (q + 2) r2 r3 ∙ ap₂ bxor (bit-shift q 2 two) (bit-shift q 2 three)))
      (new 0 (bit_xor r1 (bit_xor r2 r3))
      (bit-adds (q + 0) r1 (bit_xor r2 r3)
      ∙ ap₂ bxor (bit-shift q 0 one) (bit-adds (q + 0) r2 r3 ∙ ap₂ bxor (bit-shift q 0 two) (bit-shift q 0 three)))))

-- ---- all of them
-- a check of the copy from q on has no place from q + 4 on
pub places-low : (q : ℕ) {c : List ℕ} → All (λ i. i < 4) c → All (λ p. p < q + 4) (shifted q c)
places-low q nil = nil
places-low q (cons {x = i} h a) = cons {x = q + i} (omega arith) (places-low q a)

-- B has four places
pub below-four : All (λ c. All (λ i. i < 4) c) (checks table_b)
below-four = cons (low one refl) (cons (low two refl) (cons (low three refl) nil))
  where
    low : (c : List ℕ) → all_pass (λ i. ltb i 4) c ≡ true → All (λ i. i < 4) c
    low c h = all_map (λ i e. ltb-true i 4 e) (pass_all (λ i. ltb i 4) c h)

-- the row of such a check has no place from q + 4 on
row_low : (q : ℕ) {c : List ℕ} → All (λ i. i < 4) c → (p : ℕ) → q + 4 ≤ p → bit p (row_of (shifted q c)) ≡ false
row_low q {c} a p h = bit-row p (shifted q c) ∙ has-par p (shifted q c) (has-low p (q + 4) h (places-low q a))

-- the copies from q on are kept after such rows
keep-from : (q k : ℕ) (K : List ℕ) → Before q K → choose xor_group is_zero row_of K (copies_from q k) ≡ copies_from q k
keep-from q zero K b = refl
keep-from q (suc k) K b =
    rw (first-new q b, second-new q b, third-new q b, choose)
    (ap (λ x. shifted q one ∷ shifted q two ∷ shifted q three ∷ x) (keep-from (q + 4) k (r3 q b ∷ r2 q b ∷ r1 q b ∷ K) (rows below-four)))
  where
    rows : All (λ c. All (λ i. i < 4) c) (checks table_b) → Before (q + 4) (r3 q b ∷ r2 q b ∷ r1 q b ∷ K)
    rows (cons a1 (cons a2 (cons a3 nil))) = cons (row_low q a3) (cons (row_low q a2) (cons (row_low q a1) (all_map (λ r f p h. f p (omega arith)) b)))

pub all-kept : (k : ℕ) → kept (copies_from 0 k) ≡ copies_from 0 k
all-kept k = keep-from 0 k [] nil
