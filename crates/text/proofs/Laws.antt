-- A number's decimal digits.
use mathlib.Core.Path.{◌≡◌, refl, ap, ap₂, ◌∙◌}
use mathlib.Core.List.{List, [], ◌∷◌, ◌++◌}
use mathlib.Core.Bool.{Bool, true, false}
use Prim.Native.Nat.{ℕ, zero, suc, ◌+◌, ◌-◌, ◌*◌, ◌/◌, ◌%◌, ◌^◌, ◌≤◌, ◌<◌}
use native.Mathlib.Omega.{arith}
use native.Mathlib.Nat.{pow-suc, pow-le-pow_right, mod-lt, mod-eq_of_lt}
use borrow.Author.Tests.{lt-ltb, le-ltb, ltb-true, ltb-false}
use lib.Dec.{ltb}
use Rattle.io.specs.Digits.{last_digits, IsDigitCount, hex_digit_ascii}
use Rattle.numerals.specs.Numerals.{digits_within, decimal}

-- a digit's byte
digit : (x : ℕ) → hex_digit_ascii (x % 10) ≡ 48 + x % 10
digit x = rw (lt-ltb (x % 10) 10 (mod-lt x (omega arith)))

-- the fewest digits that hold x are its decimal digits
pub digits_decimal : (k m x : ℕ) → IsDigitCount 10 1 x (suc k) → suc k ≤ m → last_digits 10 (suc k) x ≡ digits_within m x
unfolding digits_within
digits_decimal k zero x f h = absurd (omega arith)
digits_decimal zero (suc m) x f h =
    let l : x < 10 = f.1 in
    rw (lt-ltb x 10 l, digits_within) (ap (λ (d : ℕ). d ∷ []) (digit x ∙ ap (λ (d : ℕ). 48 + d) (mod-eq_of_lt l)))
digits_decimal (suc k) (suc m) x f h =
    let e : suc (suc k) - 1 ≡ suc k = omega arith in
    let e' : suc k - 1 ≡ k = omega arith in
    let top : x < 10 ^ suc k * 10 = rw pow-suc at f.1 in
    let low : 10 ^ k * 10 ≤ x = rw (e, pow-suc) at (f.2 (omega arith)) in
    let one : 10 ^ 0 ≤ 10 ^ k = pow-le-pow_right (omega arith) {i = 0} {j = k} (omega arith) in
    let next : IsDigitCount 10 1 (x / 10) (suc k) = (omega arith, omega arith, λ _. rw e' (omega arith)) in
    rw (le-ltb x 10 (omega arith), digits_within) (ap₂ (λ (a b : List ℕ). a ++ b) (digits_decimal k m (x / 10) next (omega arith)) (ap (λ (d : ℕ). d ∷ []) (digit x)))

-- a number below 2 ^ 64 has at most 20 digits
few-digits : (k x : ℕ) → x < 2 ^ 64 → IsDigitCount 10 1 x k → k ≤ 20
few-digits k x fits f = few (ltb 20 k) refl
  where
    few : (b : Bool) → ltb 20 k ≡ b → k ≤ 20
    few false h = ltb-false 20 k h
    few true h =
        let l : 20 < k = ltb-true 20 k h in
        let p : 10 ^ 20 ≤ 10 ^ (k - 1) = pow-le-pow_right (omega arith) {i = 20} {j = k - 1} (omega arith) in
        let q : 10 ^ (k - 1) ≤ x = f.2 (omega arith) in
        absurd (omega arith)

-- the digits that were put are the number
pub number_digits : (k x : ℕ) → x < 2 ^ 64 → IsDigitCount 10 1 x k → last_digits 10 k x ≡ decimal x
number_digits zero x fits f = absurd (omega (arith, f.0))
number_digits (suc k) x fits f = digits_decimal k 20 x f (few-digits (suc k) x fits f)
