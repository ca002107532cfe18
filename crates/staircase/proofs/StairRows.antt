-- The staircase put into rows of bits, row by row.
use mathlib.Core.Path.{◌≡◌, refl, sym, ap, ◌∙◌, subst}
use mathlib.Core.List.{List}
use Prim.Native.Nat.{ℕ, zero, suc, ◌+◌, ◌-◌, ◌^◌, ◌<◌}
use native.Mathlib.Omega.{arith}
use borrow.Author.Tests.{eqb-true, eqb-false}
use lib.Bits.{bit_xor, xor_comm, xor_zero_r}
use lib.Dec.{eqb}
use Rattle.gf2.specs.Gf2.{row_of}
use Rattle.gf2.specs.Xor.{bit_xor-assoc}
use Rattle.lists.specs.Tests.{by_bool}
use Rattle.bits.specs.Row.{row, RowPut}
use Rattle.bits.specs.RowLaws.{put-put, put_is, row_other}
use Rattle.staircase.specs.Staired.{Staired}
use Rattle.staircase.specs.Stairs.{stair}

-- ---- one row
module _ (k : ℕ) (x : ℕ) where
  -- the first row's stair
  one-stair : (i : ℕ) → i ≡ 0 → bit_xor x (2 ^ (k + i)) ≡ bit_xor x (row_of (stair k i))
  one-stair zero e = ap (bit_xor x) (sym (xor_zero_r (2 ^ (k + 0))))
  one-stair (suc i) e = absurd (omega arith)

  -- another row's
  two-stairs : (i : ℕ) → 0 < i → bit_xor (bit_xor x (2 ^ (k + i))) (2 ^ (k + i - 1)) ≡ bit_xor x (row_of (stair k i))
  two-stairs zero h = absurd (omega arith)
  two-stairs (suc i) h =
      let z : k + suc i - 1 ≡ k + i = omega arith in
      ap (λ (p : ℕ). bit_xor (bit_xor x (2 ^ (k + suc i))) (2 ^ p)) z
      ∙ bit_xor-assoc x (2 ^ (k + suc i)) (2 ^ (k + i))
      ∙ ap (bit_xor x) (xor_comm (2 ^ (k + suc i)) (2 ^ (k + i)) ∙ ap (bit_xor (2 ^ (k + i))) (sym (xor_zero_r (2 ^ (k + suc i)))))

module _ (k : ℕ) {i : ℕ} {w e : List ℕ} (a : RowPut w i (bit_xor (row w i) (2 ^ (k + i))) e) where
  pub stair-one : i ≡ 0 → RowPut w i (bit_xor (row w i) (row_of (stair k i))) e
  stair-one h = put_is a (one-stair k (row w i) i h)

  pub stair-two : {f : List ℕ} → 0 < i → RowPut e i (bit_xor (row e i) (2 ^ (k + i - 1))) f → RowPut w i (bit_xor (row w i) (row_of (stair k i))) f
  stair-two h b = put_is (put-put a b) (ap (λ (x : ℕ). bit_xor x (2 ^ (k + i - 1))) a.here ∙ two-stairs k (row w i) i h)

-- ---- row after row
pub stairs-none : (k : ℕ) (w : List ℕ) → Staired k 0 w w
stairs-none k w = record { len = refl; done = λ r h. absurd (omega arith); rest = λ r h. refl }

pub stairs-more : {k i : ℕ} {w e f : List ℕ} → Staired k i w e → RowPut e i (bit_xor (row e i) (row_of (stair k i))) f → Staired k (i + 1) w f
stairs-more {k} {i} {w} {e} {f} s p = record {
  len = p.len ∙ s.len;
  done = λ r h. by_bool (eqb r i)
      (λ t. let z = eqb-true r i t in
      subst (λ (q : ℕ). row f q ≡ bit_xor (row w q) (row_of (stair k q))) (sym z) (p.here ∙ ap (λ (x : ℕ). bit_xor x (row_of (stair k i))) (s.rest i (omega arith))))
      (λ t. let z = eqb-false r i t in row_other p r z ∙ s.done r (under r h z));
  rest = λ r h. row_other p r (λ (z : r ≡ i). omega arith) ∙ s.rest r (omega arith);
}
  where
    under : (r : ℕ) → r < i + 1 → (r ≡ i → ⊥) → r < i
    under r h z = omega arith
