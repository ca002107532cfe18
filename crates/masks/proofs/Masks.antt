-- Laws of the loops over masks.
use mathlib.Core.Path.{◌≡◌, refl, sym, ap, ◌∙◌, subst}
use mathlib.Core.Bool.{true, false}
use mathlib.Core.List.{List}
use Prim.Native.Nat.{ℕ, ◌+◌, ◌^◌, ◌<◌, ◌≤◌}
use native.Mathlib.Omega.{arith}
use lib.Bits.{bit_xor}
use lib.Dec.{eqb}
use lib.ListN.{length, get_or, set, length-set}
use lib.Seq.{get_or-set_same, get_or-set_other}
use Rattle.lists.specs.Tests.{eqb-true, eqb-false, by_bool}
use Rattle.masks.specs.Dot.{dot}
use Rattle.masks.specs.Scan.{mended, Mended, Tied}

-- ---- one element more
more : {P : ℕ → Type 0} (i : ℕ) → ((k : ℕ) → k < i → P k) → P i → (k : ℕ) → k < i + 1 → P k
more {P} i h p k l = by_bool (eqb k i) (λ e. subst P (sym (eqb-true k i e)) p) (λ e. let ne = eqb-false k i e in h k (omega arith))

pub blind-more : (M : List ℕ) (c i : ℕ) → ((k : ℕ) → k < i → dot (get_or M k 0) c ≡ false) → dot (get_or M i 0) c ≡ false → (k : ℕ) → k < i + 1 → dot (get_or M k 0) c ≡ false
blind-more M c i h p = more i h p

pub units-more : (M : List ℕ) (i x : ℕ) → i < length M → x ≡ 2 ^ i → ((k : ℕ) → k < i → get_or M k 0 ≡ 2 ^ k) → (k : ℕ) → k < i + 1 → get_or (set M i x) k 0 ≡ 2 ^ k
units-more M i x l e h = more {P = λ k. get_or (set M i x) k 0 ≡ 2 ^ k} i
    (λ k q. get_or-set_other M i k x 0 (λ z. let y : k ≡ i = z in omega arith) ∙ h k q)
    (get_or-set_same M i x 0 l ∙ e)

-- ---- the first i masks mended
pub record Part (i v c : ℕ) (M N : List ℕ) : Type 0 where
  pub len : length N ≡ length M
  pub done : (k : ℕ) → k < i → get_or N k 0 ≡ mended v c (get_or M k 0)
  pub left : (k : ℕ) → i ≤ k → get_or N k 0 ≡ get_or M k 0

pub part_none : (v c : ℕ) (M : List ℕ) → Part 0 v c M M
part_none v c M = record { len = refl; done = λ k h. absurd (omega arith); left = λ k h. refl }

pub part-turn : {v c : ℕ} {M : List ℕ} (i x : ℕ) (N : List ℕ) → i < length N → x ≡ mended v c (get_or N i 0) → Part i v c M N → Part (i + 1) v c M (set N i x)
part-turn {v} {c} {M} i x N l e p = record {
  len = length-set N i x ∙ p.len;
  done = more {P = λ k. get_or (set N i x) k 0 ≡ mended v c (get_or M k 0)} i
      (λ k q. get_or-set_other N i k x 0 (λ z. let y : k ≡ i = z in omega arith) ∙ p.done k q)
      (get_or-set_same N i x 0 l ∙ e ∙ ap (mended v c) (p.left i (omega arith)));
  left = λ k q. get_or-set_other N i k x 0 (λ z. let y : k ≡ i = z in omega arith) ∙ p.left k (omega arith);
}

pub part-all : {g v c : ℕ} {M N : List ℕ} → Part g v c M N → Mended g v c M N
part-all p = record { len = p.len; each = p.done }

-- ---- tying
pub tied : (g i k c : ℕ) (M N : List ℕ) → g ≤ length M → i ≤ k → k < g → Mended g (get_or M i 0) c (set M i (get_or M k 0)) N → Tied g i k c M (set N k (get_or M i 0))
tied g i k c M N r l h d =
    let len : length N ≡ length M = d.len ∙ length-set M i (get_or M k 0) in
    record {
      len = length-set N k (get_or M i 0) ∙ len;
      here = get_or-set_same N k (get_or M i 0) 0 (omega arith);
      there = λ e. get_or-set_other N k i (get_or M i 0) 0 (eqb-false i k e) ∙ d.each i (omega arith) ∙ ap (mended (get_or M i 0) c) (get_or-set_same M i (get_or M k 0) 0 (omega arith));
      others = λ j q e f. get_or-set_other N k j (get_or M i 0) 0 (eqb-false j k f) ∙ d.each j q ∙ ap (mended (get_or M i 0) c) (get_or-set_other M i j (get_or M k 0) 0 (eqb-false j i e));
    }

-- ---- one mask
pub mended-on : (v c m : ℕ) → dot m c ≡ true → bit_xor m v ≡ mended v c m
mended-on v c m e = rw e

pub mended-off : (v c m : ℕ) → dot m c ≡ false → m ≡ mended v c m
mended-off v c m e = rw e
