-- Turns of the loops over a buffer.
use mathlib.Core.Path.{◌≡◌, refl, sym, ◌∙◌}
use mathlib.Core.List.{List}
use mathlib.Core.Logic.{⊎_elim}
use Prim.Native.Nat.{ℕ, ◌+◌, ◌-◌, ◌<◌, ◌≤◌}
use native.Mathlib.Omega.{arith}
use borrow.Author.Count.{below_more}
use lib.Bits.{bit_xor}
use lib.ListN.{length, get_or, set, replicate, length-set, length-replicate}
use lib.Seq.{get_or-set_same, get_or-set_other}
use Rattle.lists.specs.ListLaws.{get_d-zeros}
use Rattle.lists.specs.Lists.{written}
use Rattle.table.specs.Packets.{mixed}
use Rattle.lists.specs.Buffers.{Patched, patched_same, written-bytes}
use Rattle.table.specs.BufferLaws.{mixed-bytes}
use Rattle.lists.specs.Tests.{side}

-- no byte yet
pub none : (b : List ℕ) (at : ℕ) (f : ℕ → ℕ) → Patched b at 0 f b
none b at f = record { len = refl; inside = λ i h. absurd (omega arith); below = λ k h. refl; above = λ k h. refl }

-- one byte more
pub turn : {b : List ℕ} {at i : ℕ} {f : ℕ → ℕ} {e : List ℕ} (v : ℕ) → Patched b at i f e → at + i < length b → v ≡ f i
    → Patched b at (i + 1) f (set e (at + i) v)
turn {b} {at} {i} {f} {e} v p room same =
    let in_e : at + i < length e = omega (arith, p.len) in
    record {
      len = simp length-set p.len;
      inside = below_more _ _ (λ k h. get_or-set_other e (at + i) (at + k) v 0 (omega arith) ∙ p.inside k h) (get_or-set_same e (at + i) v 0 in_e ∙ same);
      below = λ k h. get_or-set_other e (at + i) k v 0 (omega arith) ∙ p.below k h;
      above = λ k h. get_or-set_other e (at + i) k v 0 (omega arith) ∙ p.above k (omega arith);
    }

-- n bytes more
pub more : {b : List ℕ} {at i n : ℕ} {f g : ℕ → ℕ} {e r : List ℕ} → Patched b at i f e → Patched e (at + i) n g r
    → ((k : ℕ) → k < n → g k ≡ f (i + k)) → Patched b at (i + n) f r
more {b} {at} {i} {n} {f} {g} {e} {r} p q same = record {
  len = q.len ∙ p.len;
  inside = λ k h.
      ⊎_elim (λ l. q.below (at + k) (omega arith) ∙ p.inside k l)
      (λ l. let d : i + (k - i) ≡ k = omega arith in let a : at + i + (k - i) ≡ at + k = omega arith in
      rw (a, d) at (q.inside (k - i) (omega arith) ∙ same (k - i) (omega arith)))
      (side k i);
  below = λ k h. q.below k (omega arith) ∙ p.below k h;
  above = λ k h. q.above k (omega arith) ∙ p.above k (omega arith);
}

-- zeros
pub cleared : (b e : List ℕ) (at s : ℕ) → at + s ≤ length b → Patched b at s (λ i. 0) e → e ≡ written b at (replicate s 0)
cleared b e at s fits p = patched_same (λ i h. sym (get_d-zeros s i)) p (written-bytes b at (replicate s 0) s (length-replicate s 0) fits)

-- the bytes of t
pub stored : (b e t : List ℕ) (at : ℕ) → at + length t ≤ length b → Patched b at (length t) (λ i. get_or t i 0) e → e ≡ written b at t
stored b e t at fits p = patched_same (λ i h. refl) p (written-bytes b at t (length t) refl fits)

-- the bytes of t added
abbrev pub sum_at : List ℕ → ℕ → List ℕ → ℕ → ℕ
sum_at b at t i = bit_xor (get_or b (at + i) 0) (get_or t i 0)

pub mix-done : (b e t : List ℕ) (at : ℕ) → at + length t ≤ length b → Patched b at (length t) (sum_at b at t) e → e ≡ mixed b at t
mix-done b e t at fits p = patched_same (λ i h. refl) p (mixed-bytes b at t (length t) refl fits)
