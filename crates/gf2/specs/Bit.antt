-- The binary digits of a number, and exclusive-or.
use Rattle.std.specs.Prelude.{◌≡◌, refl, Bool, true, false, ℕ, zero, suc, ◌+◌, ◌*◌, ◌/◌, ◌%◌, ◌^◌, ◌<◌, eqb}
use Rattle.std.proofs.Common.{sym, ap, ◌∙◌, true≢false, mod-lt, pow-suc, mul-div_cancel, div-one, mul_comm, arith}
use Rattle.std.proofs.Math.Nat.{mul-mod_left, div-div-eq-div-mul, div-eq_of_lt}
use Rattle.std.proofs.Math.Arith.{digits_mod}
use Rattle.std.specs.Int.Bits.{bit_xor, differ}
use Rattle.std.proofs.Math.Dec.{eqb-zero-suc, eqb-suc-zero, eqb-suc-suc}
use Rattle.gf2.specs.Gf2.{xor_group, odd, bit, num}
use Rattle.gf2.specs.Rank.{Hom, hom-o}
use Rattle.gf2.specs.Xor.{xor-half, xor_low, two_pos}
use Rattle.lists.specs.Lists.{bxor}

odd-differ : (x y : ℕ) → x < 2 → y < 2 → odd (differ x y) ≡ bxor (odd x) (odd y)
odd-differ zero y hx hy = refl
odd-differ (suc x) zero hx hy = refl
odd-differ (suc zero) (suc zero) hx hy = refl
odd-differ (suc zero) (suc (suc y)) hx hy = absurd (omega arith)
odd-differ (suc (suc x)) (suc y) hx hy = absurd (omega arith)

pub bit-adds : (p a b : ℕ) → bit p (bit_xor a b) ≡ bxor (bit p a) (bit p b)
bit-adds zero a b = rw (xor_low a b) (odd-differ (a % 2) (b % 2) (mod-lt a two_pos) (mod-lt b two_pos))
bit-adds (suc p) a b = rw (xor-half a b) (bit-adds p (a / 2) (b / 2))

pub bit-hom : (p : ℕ) → Hom xor_group (bit p)
bit-hom p = record { adds = bit-adds p }

-- a number below 2 ^ k with no digit there is zero
odd-false : (x : ℕ) → odd x ≡ false → x ≡ 0
odd-false zero e = refl
odd-false (suc x) e = absurd (true≢false e)

pub bits-zero : (k x : ℕ) → x < 2 ^ k → ((i : ℕ) → i < k → bit i x ≡ false) → x ≡ 0
bits-zero zero x h z = omega arith
bits-zero (suc k) x h z =
    let q : x / 2 ≡ 0 = bits-zero k (x / 2) (omega arith) (λ i l. z (suc i) (omega arith)) in
    let r : x % 2 ≡ 0 = odd-false (x % 2) (z zero (omega arith)) in
    omega arith

pub bit-push-zero : (b : Bool) (c : ℕ) → bit zero (c * 2 + num b) ≡ b
bit-push-zero true c = rw (digits_mod c {m = 2} {r = 1} (omega arith))
bit-push-zero false c = rw (digits_mod c {m = 2} {r = 0} (omega arith))

pub bit-zero : (p : ℕ) → bit p 0 ≡ false
bit-zero p = hom-o xor_group (bit-hom p)

pub bit-pow : (p q : ℕ) → bit p (2 ^ q) ≡ eqb p q
bit-pow zero zero = refl
bit-pow zero (suc q) = rw (pow-suc 2 q, mul-mod_left (2 ^ q) 2) (sym (eqb-zero-suc q))
bit-pow (suc p) zero = bit-zero p ∙ sym (eqb-suc-zero p)
bit-pow (suc p) (suc q) = rw (pow-suc 2 q, mul-div_cancel (2 ^ q) two_pos) (bit-pow p q ∙ sym (eqb-suc-suc p q))

-- by a shift
pub bit_is : (p r : ℕ) → bit p r ≡ odd (r / 2 ^ p % 2)
bit_is zero r = ap (λ x. odd (x % 2)) (sym (div-one r))
bit_is (suc p) r = bit_is p (r / 2) ∙ ap (λ x. odd (x % 2)) (div-div-eq-div-mul r 2 (2 ^ p) ∙ ap (λ x. r / x) (mul_comm 2 (2 ^ p) ∙ sym (pow-suc 2 p)))

-- no digit beyond the highest
pub bit_high : (q x : ℕ) → x < 2 ^ q → bit q x ≡ false
bit_high q x h = bit_is q x ∙ ap (λ (y : ℕ). odd (y % 2)) (div-eq_of_lt h)
