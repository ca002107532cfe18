-- A free place flipped is a one put.
use mathlib.Core.Path.{◌≡◌, sym, ap, ap₂, ◌∙◌, subst}
use mathlib.Core.Bool.{true, not}
use mathlib.Core.List.{List}
use Prim.Native.Nat.{ℕ, ◌^◌}
use lib.Bits.{bit_xor}
use lib.Dec.{eqb}
use borrow.Author.Tests.{not-true, ne_eqb}
use Rattle.lists.specs.Lists.{bxor}
use Rattle.lists.specs.Tests.{by_bool, eqb-self, eqb-true, eqb-false}
use Rattle.gf2.specs.Gf2.{bit}
use Rattle.bits.specs.Row.{row, RowPut}
use Rattle.bits.specs.RowLaws.{flip-bit, row_other}
use Rattle.lots.specs.Grid.{free, Put}

module _ (w : List ℕ) (r j : ℕ) (e : List ℕ) (p : RowPut w r (bit_xor (row w r) (2 ^ j)) e) where
  -- another place is kept
  other : (i q : ℕ) → (i ≡ r → q ≡ j → ⊥) → free e q i ≡ free w q i
  other i q n = by_bool (eqb i r)
      (λ t. let a = eqb-true i r t in let u = ne_eqb q j (n a) in
      ap (free e q) a ∙ ap not (flip-bit j p q ∙ ap (λ b. bxor b (bit q (row w r))) u) ∙ ap (free w q) (sym a))
      (λ t. ap (λ x. not (bit q x)) (row_other p i (eqb-false i r t)))

  pub flip-puts : free w j r ≡ true → Put w r j e
  flip-puts h = record {
    len = p.len;
    here = ap not (flip-bit j p j ∙ ap₂ bxor (eqb-self j) (not-true (bit j (row w r)) h));
    rest = λ i q l n. other i q n;
  }

-- the same row, by another name
pub put-at : {w : List ℕ} {r s j : ℕ} {e : List ℕ} → r ≡ s → Put w r j e → Put w s j e
put-at {w} {j = j} {e = e} h p = subst (λ x. Put w x j e) h p
