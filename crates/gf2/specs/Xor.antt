-- Exclusive-or of numbers, digit by digit.
use Rattle.std.specs.Prelude.{◌≡◌, refl, ℕ, zero, suc, ◌+◌, ◌*◌, ◌/◌, ◌%◌, ◌<◌}
use Rattle.std.proofs.Common.{sym, ap₂, ◌∙◌, mod-lt, arith}
use Rattle.std.proofs.lemmas.Nat.{xor_shr}
use Rattle.std.specs.Int.Bits.{bit_xor, xor_step, differ}
use Rattle.std.proofs.Math.Arith.{bin_ind, digits_mod}

-- ---- the numbers, digit by digit
digit_assoc : (x y z : ℕ) → x < 2 → y < 2 → z < 2 → differ (differ x y) z ≡ differ x (differ y z)
digit_assoc zero y z hx hy hz = refl
digit_assoc (suc zero) zero z hx hy hz = refl
digit_assoc (suc zero) (suc zero) zero hx hy hz = refl
digit_assoc (suc zero) (suc zero) (suc zero) hx hy hz = refl
digit_assoc (suc zero) (suc zero) (suc (suc z)) hx hy hz = absurd (omega arith)
digit_assoc (suc zero) (suc (suc y)) z hx hy hz = absurd (omega arith)
digit_assoc (suc (suc x)) y z hx hy hz = absurd (omega arith)

pub two_pos : 0 < 2
two_pos = omega arith

digit_lt : (x y : ℕ) → x < 2 → y < 2 → differ x y < 2
digit_lt zero y hx hy = hy
digit_lt (suc x) zero hx hy = hx
digit_lt (suc zero) (suc y) hx hy = omega arith
digit_lt (suc (suc x)) (suc y) hx hy = absurd (omega arith)

pub xor-half : (a b : ℕ) → bit_xor a b / 2 ≡ bit_xor (a / 2) (b / 2)
xor-half a b = xor_shr a b 1

pub xor_low : (a b : ℕ) → bit_xor a b % 2 ≡ differ (a % 2) (b % 2)
xor_low a b = rw (xor_step a b, digits_mod (bit_xor (a / 2) (b / 2)) (digit_lt (a % 2) (b % 2) (mod-lt a two_pos) (mod-lt b two_pos)))

pub bit_xor-assoc : (a b c : ℕ) → bit_xor (bit_xor a b) c ≡ bit_xor a (bit_xor b c)
bit_xor-assoc = bin_ind (λ (n : ℕ). (b c : ℕ) → bit_xor (bit_xor n b) c ≡ bit_xor n (bit_xor b c)) (λ b c. refl)
    (λ n ih b c. xor_step (bit_xor n b) c
    ∙ ap₂ (λ (q r : ℕ). q * 2 + r)
    (rw (xor-half n b, xor-half b c) (ih (b / 2) (c / 2)))
    (rw (xor_low n b, xor_low b c) (digit_assoc (n % 2) (b % 2) (c % 2) (mod-lt n two_pos) (mod-lt b two_pos) (mod-lt c two_pos)))
    ∙ sym (xor_step n (bit_xor b c)))
