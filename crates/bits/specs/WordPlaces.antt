-- The places of a row word by word, and those of a word one by one from the lowest.
use Rattle.std.specs.Prelude.{◌≡◌, refl, cond, ◌⊎◌, length, get_or}
use Rattle.std.proofs.Common.{sym, ◌∙◌, inl, inr, ⊎_elim, pow-suc, add-one, arith, length-append}
use Rattle.std.proofs.Math.Path.{ap, ap₂}
use mathlib.Core.List.{List, [], ◌∷◌, ◌++◌}
use Prim.Native.Nat.{ℕ, zero, suc, ◌+◌, ◌-◌, ◌*◌, ◌/◌, ◌%◌, ◌^◌, ◌<◌, ◌≤◌, min}
use Rattle.std.proofs.Math.Nat.{zero-min}
use Rattle.std.specs.Int.Bits.{bit_and, and_self, and_step}
use Rattle.std.specs.Int.Count.{ones, ones_step, count_trailing_zeros, under}
use Rattle.gf2.specs.Gf2.{bit, odd}
use Rattle.lists.specs.Lists.{from, filter}
use Rattle.lists.specs.ListLaws.{all_map, filter-append, filter_same}
use Rattle.lists.specs.Tests.{side}
use Rattle.lists.specs.Numbers.{from-add, from_all}
use Rattle.bits.specs.Row.{row, places_in}
use Rattle.bits.specs.RowLaws.{row-bit}

-- ---- a word
-- b if the digit d is set
abbrev pub here : ℕ → ℕ → List ℕ
here b zero = []
here b (suc d) = b ∷ []

-- the places of the k lowest digits of x, the lowest counted b
unfoldable pub places_of : ℕ → ℕ → ℕ → List ℕ
places_of b zero x = []
places_of b (suc k) x = here b (x % 2) ++ places_of (suc b) k (x / 2)

here-length : (b d : ℕ) → d < 2 → length (here b d) ≡ d
here-length b zero h = refl
here-length b (suc zero) h = refl
here-length b (suc (suc d)) h = absurd (omega arith)

-- as many as the digits that are set
pub places-length : (b k x : ℕ) → x < 2 ^ k → length (places_of b k x) ≡ ones x
unfolding places_of ones
places-length b zero x h = let e : x ≡ 0 = omega arith in sym (ap ones e)
places-length b (suc k) x h = let p = pow-suc 2 k in
    length-append (here b (x % 2)) (places_of (suc b) k (x / 2))
    ∙ ap₂ ◌+◌ (here-length b (x % 2) (omega arith)) (places-length (suc b) k (x / 2) (omega arith)) ∙ sym (ones_step x)

-- none of zero
pub places-none : (b k : ℕ) → places_of b k 0 ≡ []
unfolding places_of
places-none b zero = refl
places-none b (suc k) = places-none (suc b) k

-- ---- the lowest place, and the others
double : (b k y : ℕ) → places_of b (suc k) (y * 2) ≡ places_of (suc b) k y
unfolding places_of
double b k y = let e : y * 2 % 2 ≡ 0 = omega arith in let f : y * 2 / 2 ≡ y = omega arith in ap₂ (λ d x. here b d ++ places_of (suc b) k x) e f

clear-odd : (x : ℕ) → x % 2 ≡ 1 → bit_and x (x - 1) ≡ x / 2 * 2
clear-odd x h =
    let e : (x - 1) / 2 ≡ x / 2 = omega arith in
    let f : (x - 1) % 2 ≡ 0 = omega arith in
    and_step x (x - 1) ∙ rw (e, f, h, and_self (x / 2)) (omega arith)

clear-even : (x : ℕ) → 0 < x → x % 2 ≡ 0 → bit_and x (x - 1) ≡ bit_and (x / 2) (x / 2 - 1) * 2
clear-even x p h =
    let e : (x - 1) / 2 ≡ x / 2 - 1 = omega arith in
    and_step x (x - 1) ∙ ap₂ (λ y d. bit_and (x / 2) y * 2 + min d ((x - 1) % 2)) e h ∙ ap (λ d. bit_and (x / 2) (x / 2 - 1) * 2 + d) (zero-min ((x - 1) % 2)) ∙ omega arith

digit : (x : ℕ) → (x % 2 ≡ 0) ⊎ (x % 2 ≡ 1)
digit x = ⊎_elim (λ (h : x % 2 < 1). inl (omega arith)) (λ (h : 1 ≤ x % 2). inr (omega arith)) (side (x % 2) 1)

module _ (b k x : ℕ) where
  Next : Type 0
  Next = places_of b (suc k) x ≡ (b + count_trailing_zeros (suc k) x) ∷ places_of b (suc k) (bit_and x (x - 1))

  next-even : 0 < x → x % 2 ≡ 0 → places_of (suc b) k (x / 2) ≡ (suc b + count_trailing_zeros k (x / 2)) ∷ places_of (suc b) k (bit_and (x / 2) (x / 2 - 1)) → Next
  unfolding Next places_of count_trailing_zeros
  next-even p e h =
      let t : suc b + count_trailing_zeros k (x / 2) ≡ b + under (x % 2) (count_trailing_zeros k (x / 2)) = rw e (omega arith) in
      ap (λ d. here b d ++ places_of (suc b) k (x / 2)) e ∙ h
      ∙ ap₂ ◌∷◌ t (sym (double b k (bit_and (x / 2) (x / 2 - 1))) ∙ ap (places_of b (suc k)) (sym (clear-even x p e)))

  next-odd : x % 2 ≡ 1 → Next
  unfolding Next places_of count_trailing_zeros
  next-odd e =
      let t : b ≡ b + under (x % 2) (count_trailing_zeros k (x / 2)) = rw e (omega arith) in
      ap (λ d. here b d ++ places_of (suc b) k (x / 2)) e ∙ ap₂ ◌∷◌ t (sym (double b k (x / 2)) ∙ ap (places_of b (suc k)) (sym (clear-odd x e)))

pub places-next : (b k x : ℕ) → 0 < x → x < 2 ^ k → places_of b k x ≡ (b + count_trailing_zeros k x) ∷ places_of b k (bit_and x (x - 1))
unfolding Next
places-next b zero x p h = absurd (omega arith)
places-next b (suc k) x p h =
    let q = pow-suc 2 k in
    ⊎_elim
    (λ (e : x % 2 ≡ 0). next-even b k x p e (places-next (suc b) k (x / 2) (omega arith) (omega arith)))
    (λ (e : x % 2 ≡ 1). next-odd b k x e)
    (digit x)

-- ---- a row
-- the places that pass, those of the digits of a word
filter-places : (b k x : ℕ) → filter (λ p. bit (p - b) x) (from b k) ≡ places_of b k x
unfolding from places_of
filter-places b zero x = refl
filter-places b (suc k) x =
    let z : b - b ≡ 0 = omega arith in
    ap (λ l. cond (bit (b - b) x) (b ∷ l) l)
    (filter_same (λ p. bit (p - b) x) (λ p. bit (p - suc b) (x / 2)) (all_map (λ p h. let l = h.0 in let e : p - b ≡ suc (p - suc b) = omega arith in ap (λ i. bit i x) e) (from_all (suc b) k))
    ∙ filter-places (suc b) k (x / 2))
    ∙ ap (λ i. cond (bit i x) (b ∷ places_of (suc b) k (x / 2)) (places_of (suc b) k (x / 2))) z
    ∙ front (x % 2) (places_of (suc b) k (x / 2))
  where
    front : (d : ℕ) (l : List ℕ) → cond (odd d) (b ∷ l) l ≡ here b d ++ l
    front zero l = refl
    front (suc d) l = refl

-- the places in c words of row r from word i on
unfoldable pub places_from : List ℕ → ℕ → ℕ → ℕ → List ℕ
places_from w r i zero = []
places_from w r i (suc c) = places_of (i * 64) 64 (get_or w (r * 16 + i) 0) ++ places_from w r (suc i) c

word-places : (w : List ℕ) (r i : ℕ) → i < 16 → filter (λ p. bit p (row w r)) (from (i * 64) 64) ≡ places_of (i * 64) 64 (get_or w (r * 16 + i) 0)
word-places w r i h =
    filter_same (λ p. bit p (row w r)) (λ p. bit (p - i * 64) (get_or w (r * 16 + i) 0))
    (all_map (λ p k.
    let l = k.0 in
    let u = k.1 in
    let e : p % 64 ≡ p - i * 64 = omega arith in
    let f : p / 64 ≡ i = omega arith in
    row-bit w r p (omega arith) ∙ ap₂ (λ q j. bit q (get_or w (r * 16 + j) 0)) e f) (from_all (i * 64) 64))
    ∙ filter-places (i * 64) 64 (get_or w (r * 16 + i) 0)

words-places : (w : List ℕ) (r i c : ℕ) → i + c ≤ 16 → filter (λ p. bit p (row w r)) (from (i * 64) (c * 64)) ≡ places_from w r i c
unfolding from places_from
words-places w r i zero h = refl
words-places w r i (suc c) h =
    let e : suc c * 64 ≡ 64 + c * 64 = omega arith in
    let f : i * 64 + 64 ≡ suc i * 64 = omega arith in
    ap (λ n. filter (λ p. bit p (row w r)) (from (i * 64) n)) e
    ∙ ap (filter (λ p. bit p (row w r))) (from-add (i * 64) 64 (c * 64) ∙ ap (λ n. from (i * 64) 64 ++ from n (c * 64)) f)
    ∙ filter-append (λ p. bit p (row w r)) (from (i * 64) 64) (from (suc i * 64) (c * 64))
    ∙ ap₂ ◌++◌ (word-places w r i (omega arith)) (words-places w r (suc i) c (omega arith))

-- those of the whole row; of a word more; of none
pub row-places : (w : List ℕ) (r : ℕ) → places_in (row w r) ≡ places_from w r 0 (16 - 0)
row-places w r = words-places w r 0 16 (omega arith)

pub words-next : (w : List ℕ) (r i : ℕ) → i < 16 → places_from w r i (16 - i) ≡ places_of (i * 64) 64 (get_or w (r * 16 + i) 0) ++ places_from w r (i + 1) (16 - (i + 1))
unfolding places_from
words-next w r i h =
    let e : 16 - i ≡ suc (16 - (i + 1)) = omega arith in
    ap (places_from w r i) e ∙ ap (λ j. places_of (i * 64) 64 (get_or w (r * 16 + i) 0) ++ places_from w r j (16 - (i + 1))) (sym (add-one i))

pub words-none : (w : List ℕ) (r i : ℕ) → 16 ≤ i → places_from w r i (16 - i) ≡ []
unfolding places_from
words-none w r i h = let e : 16 - i ≡ 0 = omega arith in ap (places_from w r i) e
