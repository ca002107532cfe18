-- Laws of a mask against a column: the parity is linear on both sides, and a unit mask sees one digit.
use Rattle.std.specs.Prelude.{◌≡◌, refl, Bool, true, false, cond, ℕ, zero, suc, ◌+◌, ◌*◌, ◌/◌, ◌%◌, ◌^◌, ◌<◌, eqb}
use Rattle.std.proofs.Common.{sym, ap, ap₂, ◌∙◌, pow-suc, mul-div_cancel, arith, shl_exact}
use Rattle.std.proofs.Math.Arith.{bin_ind}
use Rattle.std.specs.Int.Bits.{bit_and, bit_xor, and_zero_l}
use Rattle.std.proofs.lemmas.Nat.{and_shr, and_mod, and_comm, and_mask, xor_shr, xor_mod, ones-le}
use Rattle.std.specs.Int.Count.{ones, ones_step}
use Rattle.std.proofs.Math.Dec.{eqb-zero-suc}
use Rattle.gf2.specs.Gf2.{xor_group, odd, bit}
use Rattle.lists.specs.Lists.{bxor}
use Rattle.gf2.specs.Xor.{two_pos}
use Rattle.gf2.specs.Bit.{bit-pow}
use Rattle.gf2.specs.Rank.{Hom}
use Rattle.masks.specs.Dot.{dot}

-- ---- four truth values
bxor4 : (a b c d : Bool) → bxor (bxor a b) (bxor c d) ≡ bxor (bxor a c) (bxor b d)
bxor4 a b true true = go a b where
  go : (a b : Bool) → bxor (bxor a b) false ≡ bxor (bxor a true) (bxor b true)
  go true true = refl
  go true false = refl
  go false true = refl
  go false false = refl
bxor4 a b true false = go a b where
  go : (a b : Bool) → bxor (bxor a b) true ≡ bxor (bxor a true) (bxor b false)
  go true true = refl
  go true false = refl
  go false true = refl
  go false false = refl
bxor4 a b false true = go a b where
  go : (a b : Bool) → bxor (bxor a b) true ≡ bxor (bxor a false) (bxor b true)
  go true true = refl
  go true false = refl
  go false true = refl
  go false false = refl
bxor4 a b false false = go a b where
  go : (a b : Bool) → bxor (bxor a b) false ≡ bxor (bxor a false) (bxor b false)
  go true true = refl
  go true false = refl
  go false true = refl
  go false false = refl

-- ---- the parity
two : (a b : ℕ) → a < 2 → b < 2 → odd ((a + b) % 2) ≡ bxor (odd a) (odd b)
two zero zero h k = refl
two zero (suc zero) h k = refl
two zero (suc (suc b)) h k = absurd (omega arith)
two (suc zero) zero h k = refl
two (suc zero) (suc zero) h k = refl
two (suc zero) (suc (suc b)) h k = absurd (omega arith)
two (suc (suc a)) b h k = absurd (omega arith)

odd-sum : (p q : ℕ) → odd ((p + q) % 2) ≡ bxor (odd (p % 2)) (odd (q % 2))
odd-sum p q = let e : (p + q) % 2 ≡ (p % 2 + q % 2) % 2 = omega arith in ap odd e ∙ two (p % 2) (q % 2) (omega arith) (omega arith)

dot-step : (m x : ℕ) → dot m x ≡ bxor (odd (bit_and m x % 2)) (dot (m / 2) (x / 2))
unfolding dot
dot-step m x =
    let e : bit_and m x % 2 % 2 ≡ bit_and m x % 2 = omega arith in
    ap (λ (y : ℕ). odd (y % 2)) (ones_step (bit_and m x)) ∙ odd-sum (bit_and m x % 2) (ones (bit_and m x / 2))
    ∙ ap₂ bxor (ap odd e) (ap (λ (y : ℕ). odd (ones y % 2)) (and_shr m x 1))

low3 : (m a b : ℕ) → m < 2 → a < 2 → b < 2 → odd (bit_and m (bit_xor a b)) ≡ bxor (odd (bit_and m a)) (odd (bit_and m b))
low3 zero a b h k l = refl
low3 (suc zero) zero zero h k l = refl
low3 (suc zero) zero (suc zero) h k l = refl
low3 (suc zero) zero (suc (suc b)) h k l = absurd (omega arith)
low3 (suc zero) (suc zero) zero h k l = refl
low3 (suc zero) (suc zero) (suc zero) h k l = refl
low3 (suc zero) (suc zero) (suc (suc b)) h k l = absurd (omega arith)
low3 (suc zero) (suc (suc a)) b h k l = absurd (omega arith)
low3 (suc (suc m)) a b h k l = absurd (omega arith)

low : (m a b : ℕ) → odd (bit_and m (bit_xor a b) % 2) ≡ bxor (odd (bit_and m a % 2)) (odd (bit_and m b % 2))
low m a b = ap odd (and_mod m (bit_xor a b) 1 ∙ ap (bit_and (m % 2)) (xor_mod a b 1))
    ∙ low3 (m % 2) (a % 2) (b % 2) (omega arith) (omega arith) (omega arith)
    ∙ sym (ap₂ bxor (ap odd (and_mod m a 1)) (ap odd (and_mod m b 1)))

dot-zero : (x : ℕ) → dot 0 x ≡ false
unfolding dot
dot-zero x = let z : ones 0 ≡ 0 = omega (arith, ones-le 0 0 (omega arith)) in rw (and_zero_l x, z)

pub dot-adds : (m a b : ℕ) → dot m (bit_xor a b) ≡ bxor (dot m a) (dot m b)
dot-adds = bin_ind (λ (m : ℕ). (a b : ℕ) → dot m (bit_xor a b) ≡ bxor (dot m a) (dot m b))
    (λ a b. dot-zero (bit_xor a b) ∙ sym (ap₂ bxor (dot-zero a) (dot-zero b)))
    (λ m ih a b. dot-step m (bit_xor a b)
    ∙ ap₂ bxor (low m a b) (ap (dot (m / 2)) (xor_shr a b 1) ∙ ih (a / 2) (b / 2))
    ∙ bxor4 (odd (bit_and m a % 2)) (odd (bit_and m b % 2)) (dot (m / 2) (a / 2)) (dot (m / 2) (b / 2))
    ∙ sym (ap₂ bxor (dot-step m a) (dot-step m b)))

pub dot-hom : (m : ℕ) → Hom xor_group (dot m)
dot-hom m = record { adds = dot-adds m }

dot-comm : (m x : ℕ) → dot m x ≡ dot x m
unfolding dot
dot-comm m x = ap (λ (y : ℕ). odd (ones y % 2)) (and_comm m x)

-- one mask added into another
pub dot-mend : (m v x : ℕ) → dot (bit_xor m v) x ≡ bxor (dot m x) (dot v x)
dot-mend m v x = dot-comm (bit_xor m v) x ∙ dot-adds x m v ∙ ap₂ bxor (dot-comm x m) (dot-comm x v)

one-odd : (x : ℕ) → x < 2 → eqb x 1 ≡ odd x
one-odd zero h = refl
one-odd (suc zero) h = refl
one-odd (suc (suc x)) h = absurd (omega arith)

pub seen : (m x : ℕ) → eqb (bit_and (ones (bit_and m x)) 1) 1 ≡ dot m x
unfolding dot
seen m x = ap (λ (y : ℕ). eqb y 1) (and_mask (ones (bit_and m x)) 1) ∙ one-odd (ones (bit_and m x) % 2) (omega arith)

-- ---- digit by digit
low_and : (a b : ℕ) → a < 2 → b < 2 → odd (bit_and a b) ≡ cond (odd a) (odd b) false
low_and zero b h k = refl
low_and (suc zero) zero h k = refl
low_and (suc zero) (suc zero) h k = refl
low_and (suc zero) (suc (suc b)) h k = absurd (omega arith)
low_and (suc (suc a)) b h k = absurd (omega arith)

pub dot-digit : (m x : ℕ) → dot m x ≡ bxor (cond (bit 0 m) (bit 0 x) false) (dot (m / 2) (x / 2))
dot-digit m x = dot-step m x ∙ ap (λ (b : Bool). bxor b (dot (m / 2) (x / 2))) (ap odd (and_mod m x 1) ∙ low_and (m % 2) (x % 2) (omega arith) (omega arith))

bxor-none : (b : Bool) → bxor b false ≡ b
bxor-none true = refl
bxor-none false = refl

-- a unit mask sees one digit
pub dot-unit : (i x : ℕ) → dot (2 ^ i) x ≡ bit i x
dot-unit zero x = dot-digit 1 x ∙ ap (bxor (bit 0 x)) (dot-zero (x / 2)) ∙ bxor-none (bit 0 x)
dot-unit (suc i) x = dot-digit (2 ^ suc i) x
    ∙ ap₂ bxor (ap (λ (b : Bool). cond b (bit 0 x) false) (bit-pow 0 (suc i) ∙ eqb-zero-suc i))
    (ap (λ (m : ℕ). dot m (x / 2)) (ap (λ (m : ℕ). m / 2) (pow-suc 2 i) ∙ mul-div_cancel (2 ^ i) two_pos) ∙ dot-unit i (x / 2))

-- the code's 1 << i
pub unit-word : (i : ℕ) → i < 32 → 1 * 2 ^ i % 2 ^ 32 ≡ 2 ^ i
unit-word i h = shl_exact 1 i 32 (omega arith) (omega arith) ∙ omega arith
