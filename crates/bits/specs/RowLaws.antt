-- Laws of rows in a list of words: their digits, and a row put in its place.
use Rattle.std.specs.Prelude.{◌≡◌, refl, List, ℕ, zero, suc, ◌+◌, ◌*◌, ◌-◌, ◌/◌, ◌%◌, ◌^◌, ◌<◌, eqb, get_or}
use Rattle.std.proofs.Common.{sym, ap, ap₂, ◌∙◌, subst, mod-lt, suc-mul, zero-mul, arith, pow_pos, pow-add, shr-shr}
use Rattle.std.proofs.Math.Arith.{digits_lt}
use Rattle.std.specs.Int.Bits.{bit_xor}
use Rattle.std.proofs.Math.Pow.{high, low, field, mod-mod-pow}
use Rattle.lists.specs.Lists.{bxor}
use Rattle.lists.specs.Tests.{bxor-comm}
use Rattle.gf2.specs.Gf2.{bit, odd}
use Rattle.gf2.specs.Bit.{bit-adds, bit_is, bit-pow}
use Rattle.bits.specs.Row.{num, row, RowPut}

-- ---- digits of a number cut in two
bit_up : (s p x : ℕ) → bit (s + p) x ≡ bit p (x / 2 ^ s)
bit_up s p x = bit_is (s + p) x ∙ ap (λ (y : ℕ). odd (y % 2)) (sym (shr-shr x s p)) ∙ sym (bit_is p (x / 2 ^ s))

pub bit-low : (s p x : ℕ) → p < s → bit p (x % 2 ^ s) ≡ bit p x
bit-low s p x h =
    let d = s - p - 1 in
    let e : s ≡ (d + 1) + p = omega arith in
    bit_is p (x % 2 ^ s)
    ∙ ap odd (ap (λ (k : ℕ). x % 2 ^ k / 2 ^ p % 2) e ∙ ap (λ (y : ℕ). y % 2) (field x (d + 1) p) ∙ mod-mod-pow (x / 2 ^ p) d 1)
    ∙ sym (bit_is p x)

-- ---- words
pub num-lt : (s : ℕ) (f : ℕ → ℕ) (k : ℕ) → num s f k < 2 ^ (k * s)
unfolding num
num-lt s f zero = subst (λ (n : ℕ). 0 < 2 ^ n) (sym (zero-mul s)) (pow_pos 0)
num-lt s f (suc k) = subst (λ (n : ℕ). num s f (suc k) < n) (sym (pow-add 2 (k * s) s) ∙ ap (λ (n : ℕ). 2 ^ n) (sym (suc-mul k s)))
    (digits_lt (num-lt s (λ j. f (suc j)) k) (mod-lt (f 0) (pow_pos s)))

pub num-same : (s : ℕ) (f g : ℕ → ℕ) (k : ℕ) → ((j : ℕ) → j < k → f j ≡ g j) → num s f k ≡ num s g k
unfolding num
num-same s f g zero h = refl
num-same s f g (suc k) h = ap₂ (λ (q r : ℕ). q * 2 ^ s + r % 2 ^ s) (num-same s (λ j. f (suc j)) (λ j. g (suc j)) k (λ j l. h (suc j) (omega arith))) (h 0 (omega arith))

pub num-bit : (s : ℕ) (f : ℕ → ℕ) (k j i : ℕ) → j < k → i < s → bit (j * s + i) (num s f k) ≡ bit i (f j)
unfolding num
num-bit s f zero j i h l = absurd (omega arith)
num-bit s f (suc k) zero i h l =
    let z : zero * s + i ≡ i = omega (arith, zero-mul s) in
    ap (λ (p : ℕ). bit p (num s f (suc k))) z
    ∙ sym (bit-low s i (num s f (suc k)) l)
    ∙ ap (bit i) (low (num s (λ j. f (suc j)) k) s (mod-lt (f 0) (pow_pos s)))
    ∙ bit-low s i (f 0) l
num-bit s f (suc k) (suc j) i h l =
    let e : suc j * s + i ≡ s + (j * s + i) = omega (arith, suc-mul j s) in
    ap (λ (p : ℕ). bit p (num s f (suc k))) e
    ∙ bit_up s (j * s + i) (num s f (suc k))
    ∙ ap (bit (j * s + i)) (high (num s (λ j. f (suc j)) k) s (mod-lt (f 0) (pow_pos s)))
    ∙ num-bit s (λ j. f (suc j)) k j i (omega arith) l

-- ---- rows
pub row_lt : (w : List ℕ) (r : ℕ) → row w r < 2 ^ (16 * 64)
unfolding row
row_lt w r = num-lt 64 (λ j. get_or w (r * 16 + j) 0) 16

pub row-bit : (w : List ℕ) (r p : ℕ) → p < 1024 → bit p (row w r) ≡ bit (p % 64) (get_or w (r * 16 + p / 64) 0)
unfolding row
row-bit w r p h =
    let e : p ≡ p / 64 * 64 + p % 64 = omega arith in
    ap (λ (q : ℕ). bit q (num 64 (λ j. get_or w (r * 16 + j) 0) 16)) e
    ∙ num-bit 64 (λ j. get_or w (r * 16 + j) 0) 16 (p / 64) (p % 64) (omega arith) (omega arith)

pub row_same : (w e : List ℕ) (r : ℕ) → ((j : ℕ) → j / 16 ≡ r → get_or e j 0 ≡ get_or w j 0) → row e r ≡ row w r
unfolding row
row_same w e r h = num-same 64 (λ j. get_or e (r * 16 + j) 0) (λ j. get_or w (r * 16 + j) 0) 16 (λ j l. h (r * 16 + j) (omega arith))

pub row_other : {w : List ℕ} {r x : ℕ} {e : List ℕ} → RowPut w r x e → (s : ℕ) → (s ≡ r → ⊥) → row e s ≡ row w s
row_other {w} {r} {x} {e} p s n = row_same w e s (λ j q. p.rest j (λ (z : j / 16 ≡ r). n (omega arith)))

pub put-put : {w : List ℕ} {r x y : ℕ} {e f : List ℕ} → RowPut w r x e → RowPut e r y f → RowPut w r y f
put-put p q = record { len = q.len ∙ p.len; here = q.here; rest = λ j n. q.rest j n ∙ p.rest j n }

pub put_self : (w : List ℕ) (r : ℕ) → RowPut w r (row w r) w
put_self w r = record { len = refl; here = refl; rest = λ j n. refl }

pub put_is : {w : List ℕ} {r x y : ℕ} {e : List ℕ} → RowPut w r x e → x ≡ y → RowPut w r y e
put_is p h = record { len = p.len; here = p.here ∙ h; rest = p.rest }

-- place p of row r is flipped
pub flip-bit : {w e : List ℕ} {r : ℕ} (p : ℕ) → RowPut w r (bit_xor (row w r) (2 ^ p)) e → (q : ℕ) → bit q (row e r) ≡ bxor (eqb q p) (bit q (row w r))
flip-bit {w} {e} {r} p f q = ap (bit q) f.here ∙ bit-adds q (row w r) (2 ^ p) ∙ ap (bxor (bit q (row w r))) (bit-pow q p) ∙ bxor-comm (bit q (row w r)) (eqb q p)
