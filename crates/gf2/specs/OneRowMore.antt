-- Where the reduction of a row stops, and the leads with that row put in.
use Rattle.std.specs.Prelude.{◌≡◌, true, false, cond, List, ℕ, zero, suc, ◌^◌, ◌<◌, eqb}
use Rattle.std.proofs.Common.{sym, ap, ◌∙◌, true≢false, pow-suc, arith, pow_pos}
use Rattle.gf2.specs.Bit.{bits-zero}
use Rattle.gf2.specs.EchelonLaws.{down-test, sums-sound, sums-complete}
use Rattle.gf2.specs.Gf2.{bit, is_zero, xor_group, Short, Lead, rows_of, sums, down}
use Rattle.gf2.specs.Span.{span-within, Within}
use Rattle.lists.specs.Tests.{eqb-self, by_bool}

-- ---- rows without a place from l on
lt-pow : (y : ℕ) → y < 2 ^ y
lt-pow zero = pow_pos 0
lt-pow (suc y) = let h = lt-pow y in let e = pow-suc 2 y in omega arith

-- no place at all: zero
pub short-zero : (y : ℕ) → Short 0 y → y ≡ 0
short-zero y s = bits-zero y y (lt-pow y) (λ i l. s.above i (omega arith))

-- ---- where it stopped: the highest place, which no row leads
pub record Stopped (f : ℕ → ℕ) (n y : ℕ) : Type 0 where
  pub top : ℕ
  pub inside : top < n
  pub on : bit top y ≡ true
  pub last : Short (suc top) y
  pub free : is_zero (f top) ≡ true

-- ---- one row more
-- f with y at h
abbrev pub put_at : (ℕ → ℕ) → ℕ → ℕ → ℕ → ℕ
put_at f h y q = cond (eqb q h) y (f q)

pub put_same : (f : ℕ → ℕ) (h y : ℕ) → put_at f h y h ≡ y
put_same f h y = ap (λ b. cond b y (f h)) (eqb-self h)

pub put_other : (f : ℕ → ℕ) (h y q : ℕ) → eqb q h ≡ false → put_at f h y q ≡ f q
put_other f h y q e = ap (λ b. cond b y (f q)) e

-- ---- leads that have the same sums as the rows R: a row is reduced to zero just if it is a sum of R
pub down-zero : (n : ℕ) {f : ℕ → ℕ} → Lead f → (R : List ℕ) → Within xor_group R (rows_of f n) → Within xor_group (rows_of f n) R → (x : ℕ) → is_zero (down f n x) ≡ sums R x
down-zero n {f} l R inn out x = down-test l n x ∙ by_bool (sums (rows_of f n) x)
    (λ t. t ∙ sym (sums-complete R x (span-within xor_group inn (sums-sound (rows_of f n) x t))))
    (λ t. by_bool (sums R x)
    (λ k. absurd (true≢false (sym (sums-complete (rows_of f n) x (span-within xor_group out (sums-sound R x k))) ∙ t)))
    (λ k. t ∙ sym k))
