-- Laws of single bytes and of counting.
use mathlib.Core.Path.{◌≡◌, refl, sym, ap, ◌∙◌}
use mathlib.Core.Bool.{true, false}
use mathlib.Core.List.{List, [], ◌∷◌, ◌++◌}
use mathlib.Core.Option.{none, some}
use Rattle.std.specs.Prelude.{Some, None}
use Prim.Native.Nat.{ℕ, zero, suc, ◌+◌, ◌-◌, ◌*◌, ◌<◌, ◌≤◌}
use native.Mathlib.Numerals.{add-one}
use native.Mathlib.Omega.{arith}
use lib.ListN.{length, get_or, drop, length-append, drop_of_length-le}
use lib.Seq.{drop-cons}
use Rattle.lists.specs.Tests.{by_bool}
use Rattle.numerals.specs.Numerals.{is_digit}
use Rattle.numbers.specs.Numbers.{is_gap, numbers_in}
use Rattle.numbers.specs.Steps.{before, ended_number, numbers_from, gap-no-digit, before-nil, before-both, digit-step, seventh-step, gap_step, other_step, numbers-by-steps}
use Rattle.numbers.specs.Counting.{digits_after, ends_here, count_of}

-- ---- the digits after a byte
pub after-gap : (d b : ℕ) → is_gap b ≡ true → 0 ≡ digits_after d b
unfolding digits_after
after-gap d b g = rw (gap-no-digit b g, digits_after, g)

pub after-digit : (d b : ℕ) → is_digit b ≡ true → d + 1 ≡ digits_after d b
unfolding digits_after
after-digit d b e = rw (e, digits_after)

-- a digit is no number's if there are six, and any other byte that is no gap is none
pub after-other : (d b : ℕ) → is_gap b ≡ false → d ≤ 6 → (is_digit b ≡ true → 6 ≤ d) → 7 ≡ digits_after d b
unfolding digits_after
after-other d b g l h = by_bool (is_digit b)
    (λ e. rw (e, digits_after) (let k = h e in omega arith))
    (λ e. rw (e, digits_after, g))

-- ---- the end of a number
-- no more numbers than bytes
pub ends_next : (k d e i : ℕ) → k + ends_here d 0 ≤ i → k + ends_here d e + ends_here e 0 ≤ i + 1
ends_next k zero zero i h = omega arith
ends_next k zero (suc e) i h = omega arith
ends_next k (suc d) zero i h = omega arith
ends_next k (suc d) (suc e) i h = omega arith

pub ends-few : (d e : ℕ) → ends_here d e ≤ 1
ends-few zero e = omega arith
ends-few (suc d) zero = omega arith
ends-few (suc d) (suc e) = omega arith

-- the number that ends is counted
ended-count : (d e v : ℕ) → e ≡ 0 → length (ended_number d v) ≡ ends_here d e
ended-count zero e v h = refl
ended-count (suc d) e v h = rw h

-- ---- the text passed
-- i bytes passed: k numbers ended, and d digits of another were seen
pub record Passed (text : List ℕ) (k d i : ℕ) : Type 0 where
  pub seen : List ℕ
  pub value : ℕ
  pub count : k ≡ length seen
  pub rest : numbers_in text ≡ before seen (numbers_from d value (drop i text))

pub passed_start : (text : List ℕ) → Passed text 0 0 0
passed_start text = record { seen = []; value = 0; count = refl; rest = numbers-by-steps text ∙ sym (before-nil (numbers_from 0 0 text)) }

-- the next byte
pub next-byte : (text : List ℕ) (i : ℕ) → i < length text → drop i text ≡ get_or text i 0 ∷ drop (i + 1) text
next-byte text i h = rw add-one (drop-cons text i 0 h)

byte_next : {text : List ℕ} {k d i : ℕ} (p : Passed text k d i) → i < length text
    → numbers_in text ≡ before p.seen (numbers_from d p.value (get_or text i 0 ∷ drop (i + 1) text))
byte_next {text} {k} {d} {i} p h = p.rest ∙ ap (λ x. before p.seen (numbers_from d p.value x)) (next-byte text i h)

-- what is no number
pub passed-bad : {text : List ℕ} {k d i : ℕ} (e : ℕ) → Passed text k d i → i < length text → d ≤ 6 → e ≡ digits_after d (get_or text i 0) → 7 ≤ e
    → None ≡ count_of (numbers_in text)
unfolding digits_after
passed-bad {text} {k} {d} {i} e p h f q z =
    let b = get_or text i 0 in
    let r = drop (i + 1) text in
    let s = byte_next p h in
    let none_is : numbers_from d p.value (b ∷ r) ≡ none = by_bool (is_digit b)
    (λ a. let w : e ≡ d + 1 = q ∙ rw (a, digits_after) in seventh-step d p.value b r a (omega arith))
    (λ a. by_bool (is_gap b)
    (λ g. absurd (let w : e ≡ 0 = q ∙ rw (a, digits_after, g) in omega arith))
    (λ g. other_step d p.value b r a g)) in
    let t : numbers_in text ≡ none = s ∙ ap (before p.seen) none_is in
    sym (ap count_of t)

-- what is
pub passed_on : {text : List ℕ} {k d i : ℕ} (e x : ℕ) → Passed text k d i → i < length text → e ≡ digits_after d (get_or text i 0) → e ≤ 6
    → x ≡ ends_here d e → Passed text (k + x) e (i + 1)
unfolding digits_after
passed_on {text} {k} {d} {i} e x p h q z y =
    let b = get_or text i 0 in
    let r = drop (i + 1) text in
    let s = byte_next p h in
    by_bool (is_digit b)
    (λ a. let w : e ≡ d + 1 = q ∙ rw (a, digits_after) in
    let u : e ≡ suc d = omega arith in
    let g : d < 6 = omega arith in
    let n : x ≡ 0 = y ∙ rw u (nothing d) in
    record {
      seen = p.seen;
      value = p.value * 10 + (b - 48);
      count = rw n (let c = p.count in omega arith);
      rest = s ∙ ap (before p.seen) (digit-step d p.value b r a g) ∙ ap (λ m. before p.seen (numbers_from m (p.value * 10 + (b - 48)) r)) (sym u);
    })
    (λ a. by_bool (is_gap b)
    (λ g. let w : e ≡ 0 = q ∙ rw (a, digits_after, g) in
    record {
      seen = p.seen ++ ended_number d p.value;
      value = 0;
      count = omega (arith, p.count, length-append p.seen (ended_number d p.value), ended-count d e p.value w);
      rest = s ∙ ap (before p.seen) (gap_step d p.value b r g) ∙ before-both p.seen (ended_number d p.value) (numbers_from 0 0 r)
          ∙ ap (λ m. before (p.seen ++ ended_number d p.value) (numbers_from m 0 r)) (sym w);
    })
    (λ g. let w : e ≡ 7 = q ∙ rw (a, digits_after, g) in absurd (omega arith)))
  where
    nothing : (d : ℕ) → ends_here d (suc d) ≡ 0
    nothing zero = refl
    nothing (suc d) = refl

-- the end
pub passed-end : {text : List ℕ} {k d i : ℕ} (x : ℕ) → Passed text k d i → length text ≤ i → x ≡ ends_here d 0 → Some (k + x) ≡ count_of (numbers_in text)
passed-end {text} {k} {d} {i} x p h y =
    let l = p.seen ++ ended_number d p.value in
    let t : numbers_in text ≡ some l = p.rest ∙ ap (λ r. before p.seen (numbers_from d p.value r)) (drop_of_length-le text h) in
    let w : k + x ≡ length l = omega (arith, p.count, length-append p.seen (ended_number d p.value), ended-count d 0 p.value refl) in
    ap Some w ∙ sym (ap count_of t)
