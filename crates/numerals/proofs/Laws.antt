-- Digits read one after the other.
use mathlib.Core.Path.{◌≡◌, refl, sym, ap, ◌∙◌}
use mathlib.Core.Bool.{Bool, true, false, not, ◌&&◌}
use mathlib.Core.List.{List, [], ◌∷◌}
use Prim.Native.Nat.{ℕ, suc, ◌+◌, ◌-◌, ◌*◌, ◌≤◌, ◌<◌}
use native.Mathlib.Numerals.{add-one}
use native.Mathlib.Omega.{arith}
use borrow.Author.Tests.{le-leb, lt-leb, eq-eqb, ne_eqb}
use lib.Dec.{eqb, leb}
use lib.ListN.{length, get_or, drop, drop_of_length-le}
use lib.Seq.{drop-cons}
use Rattle.lists.specs.Lists.{all_pass}
use Rattle.lists.specs.Tests.{and-false}
use Rattle.std.specs.Prelude.{Some, None}
use Rattle.numerals.specs.Numerals.{most_number, is_digit, value_after, is_number, number_of}

-- ---- a digit
pub too-low : (b : ℕ) → b < 48 → leb 48 b ≡ is_digit b
too-low b h = rw (lt-leb 48 b h) refl

pub not_low : (b : ℕ) → 48 ≤ b → leb b 57 ≡ is_digit b
not_low b h = rw (le-leb 48 b h) refl

-- ---- no number, and a number
none : (text : List ℕ) → is_number text ≡ false → None ≡ number_of text
unfolding number_of
none text e = rw (e, number_of) refl

-- digits only add
grows : (x : ℕ) (text : List ℕ) → x ≤ value_after x text
grows x [] = omega arith
grows x (b ∷ text) = let h = grows (x * 10 + (b - 48)) text in omega arith

-- a conjunction that fails by its second or third part
second-fails : (a b c : Bool) → b ≡ false → (a && (b && c)) ≡ false
second-fails a b c e = and-false a (b && c) (rw e)

third-fails : (a b c : Bool) → c ≡ false → (a && (b && c)) ≡ false
third-fails a b c e = and-false a (b && c) (and-false b c e)

pub empty-none : (text : List ℕ) → length text ≡ 0 → None ≡ number_of text
empty-none text e = none text (rw (eq-eqb (length text) 0 e) refl)

-- ---- the rest decides
-- x comes of the first i bytes, which are digits
pub record Rest (text : List ℕ) (x i : ℕ) : Type 0 where
  pub small : x ≤ most_number
  pub digits : all_pass is_digit (drop i text) ≡ all_pass is_digit text
  pub value : value_after x (drop i text) ≡ value_after 0 text

pub rest_all : (text : List ℕ) → Rest text 0 0
rest_all text = record { small = omega arith; digits = refl; value = refl }

module _ (text : List ℕ) (x i : ℕ) (r : Rest text x i) (h : i < length text) where
  -- the next byte is no digit
  pub rest-other : is_digit (get_or text i 0) ≡ false → None ≡ number_of text
  rest-other e =
      let d : all_pass is_digit text ≡ false = sym r.digits ∙ rw (drop-cons text i 0 h, e) refl in
      none text (second-fails (not (eqb (length text) 0)) (all_pass is_digit text) (leb (value_after 0 text) most_number) d)

  -- it makes the number too large
  pub rest-large : most_number < x * 10 + (get_or text i 0 - 48) → None ≡ number_of text
  rest-large l =
      let v : value_after (x * 10 + (get_or text i 0 - 48)) (drop (suc i) text) ≡ value_after 0 text = rw (drop-cons text i 0 h) at r.value in
      let g = grows (x * 10 + (get_or text i 0 - 48)) (drop (suc i) text) in
      none text
      (third-fails (not (eqb (length text) 0)) (all_pass is_digit text) (leb (value_after 0 text) most_number) (lt-leb (value_after 0 text) most_number (omega arith)))

  -- it is one more digit
  pub rest-next : is_digit (get_or text i 0) ≡ true → x * 10 + (get_or text i 0 - 48) ≤ most_number → Rest text (x * 10 + (get_or text i 0 - 48)) (i + 1)
  rest-next e l = record {
    small = l;
    digits = rw add-one (rw (drop-cons text i 0 h, e) at r.digits);
    value = rw add-one (rw (drop-cons text i 0 h) at r.value);
  }

-- no byte is left
pub rest-none : (text : List ℕ) (x i : ℕ) → Rest text x i → length text ≤ i → (length text ≡ 0 → ⊥) → Some x ≡ number_of text
unfolding number_of
rest-none text x i r h n =
    let d : drop i text ≡ [] = drop_of_length-le text h in
    let v : x ≡ value_after 0 text = rw d at r.value in
    let a : true ≡ all_pass is_digit text = rw d at r.digits in
    let s = r.small in
    let f : is_number text ≡ true = rw (ne_eqb (length text) 0 n, ← a, ← v, le-leb x most_number s) refl in
    rw (f, number_of) (ap Some v)
