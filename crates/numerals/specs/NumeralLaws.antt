-- Laws of decimal digits: what they are; of a number that is written, how many there are, and that they are read as the number again.
use Rattle.std.specs.Prelude.{◌≡◌, refl, true, List, [], ◌∷◌, ◌++◌, ℕ, zero, suc, ◌+◌, ◌-◌, ◌*◌, ◌/◌, ◌%◌, ◌^◌, ◌<◌, ◌≤◌, ltb, leb, length}
use Rattle.std.proofs.Common.{◌∙◌, div-add-mod', mod-lt, pow-suc, arith, le-leb, lt-ltb, leb-true, ltb-true, length-append}
use Rattle.lists.specs.ListLaws.{all_snoc}
use Rattle.lists.specs.Lists.{All, All.nil, All.cons}
use Rattle.lists.specs.Tests.{by_bool, and_l, and_r}
use Rattle.numerals.specs.Numerals.{is_digit, value_after, digits_within, decimal}

-- a digit is 48 to 57
pub digit-range : (b : ℕ) → is_digit b ≡ true → (48 ≤ b) × (b ≤ 57)
digit-range b e = (leb-true 48 b (and_l (leb 48 b) (leb b 57) e), leb-true b 57 (and_r (leb 48 b) (leb b 57) e))

-- ---- how many digits
-- at most as many as there is room for
most-digits : (k x : ℕ) → length (digits_within k x) ≤ k
unfolding digits_within
most-digits zero x = omega arith
most-digits (suc k) x = by_bool (ltb x 10)
    (λ e. rw (e, digits_within) (omega arith))
    (λ e. let h = most-digits k (x / 10) in rw (e, digits_within) (simp length-append (omega arith)))

pub decimal-most : (x : ℕ) → length (decimal x) ≤ 20
decimal-most x = most-digits 20 x

-- below a power of ten
few-digits : (d k x : ℕ) → x < 10 ^ suc d → length (digits_within k x) ≤ suc d
unfolding digits_within
few-digits d zero x h = omega arith
few-digits zero (suc k) x h = rw (lt-ltb x 10 h, digits_within) (omega arith)
few-digits (suc d) (suc k) x h = by_bool (ltb x 10)
    (λ e. rw (e, digits_within) (omega arith))
    (λ e. let p : x < 10 ^ suc d * 10 = rw pow-suc at h in
    let i = few-digits d k (x / 10) (omega arith) in rw (e, digits_within) (simp length-append (omega arith)))

pub decimal-few : (d x : ℕ) → x < 10 ^ suc d → length (decimal x) ≤ suc d
decimal-few d x h = few-digits d 20 x h

-- at least one
pub decimal-some : (x : ℕ) → 1 ≤ length (decimal x)
unfolding digits_within
decimal-some x = by_bool (ltb x 10)
    (λ e. rw (e, digits_within) (omega arith))
    (λ e. rw (e, digits_within) (simp length-append (omega arith)))

-- ---- read again
-- each is a digit
digit : (x : ℕ) → x < 10 → is_digit (48 + x) ≡ true
digit x h = rw (le-leb 48 (48 + x) (omega arith), le-leb (48 + x) 57 (omega arith))

all_digits : (k x : ℕ) → All (λ b. is_digit b ≡ true) (digits_within k x)
unfolding digits_within
all_digits zero x = nil
all_digits (suc k) x = by_bool (ltb x 10)
    (λ e. rw (e, digits_within) (cons (digit x (omega (arith, ltb-true x 10 e))) nil))
    (λ e. rw (e, digits_within) (all_snoc (all_digits k (x / 10)) (digit (x % 10) (mod-lt x (omega arith)))))

pub decimal-digits : (x : ℕ) → All (λ b. is_digit b ≡ true) (decimal x)
decimal-digits x = all_digits 20 x

-- a digit more
pub value-snoc : (v : ℕ) (text : List ℕ) (b : ℕ) → value_after v (text ++ (b ∷ [])) ≡ value_after v text * 10 + (b - 48)
value-snoc v [] b = refl
value-snoc v (c ∷ text) b = value-snoc (v * 10 + (c - 48)) text b

value-within : (k x : ℕ) → x < 10 ^ k → value_after 0 (digits_within k x) ≡ x
unfolding digits_within
value-within zero x h = omega arith
value-within (suc k) x h = by_bool (ltb x 10)
    (λ e. rw (e, digits_within) (omega arith))
    (λ e. let p : x < 10 ^ k * 10 = rw pow-suc at h in
    let i = value-within k (x / 10) (omega arith) in
    let z : x / 10 * 10 + x % 10 ≡ x = div-add-mod' x 10 in
    rw (e, digits_within) (value-snoc 0 (digits_within k (x / 10)) (48 + x % 10) ∙ (omega arith)))

-- a number of at most 20 digits
pub decimal-value : (x : ℕ) → x < 10 ^ 20 → value_after 0 (decimal x) ≡ x
decimal-value x h = value-within 20 x h
