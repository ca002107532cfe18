-- The scratch slots that a mask names, one after the other.
use mathlib.Core.Path.{◌≡◌, sym, ap, ap₂, ◌∙◌}
use mathlib.Core.Bool.{true}
use mathlib.Core.List.{List, [], ◌∷◌, map}
use Prim.Native.Nat.{ℕ, suc, ◌+◌, ◌-◌, ◌/◌, ◌%◌, ◌^◌, ◌<◌}
use native.Mathlib.Nat.{div-div-eq-div-mul, div-one, pow-suc}
use native.Mathlib.Numerals.{add-one}
use native.Mathlib.Omega.{arith}
use lib.Bits.{bit_and, and_mask}
use lib.Dec.{eqb}
use Rattle.gf2.specs.Gf2.{bit, odd}
use Rattle.lists.specs.Tests.{eqb-true, eqb-false, by_bool}
use Rattle.plan.specs.declared.Step.TheVariants.{Add}
use Rattle.plan.specs.Step.{pack}
use Rattle.rule.specs.Buffers.{mask_bits}
use Rattle.rule.specs.Rule.{slots_named}

-- the add steps of the slots from number i on
abbrev pub named : ℕ → ℕ → ℕ → ℕ → ℕ → List ℕ
named to n g row i = map pack (map (Add to) (slots_named (n + i) (mask_bits (g - i) (row / 2 ^ i))))

pub named-all : (to n g row : ℕ) → map pack (map (Add to) (slots_named n (mask_bits g row))) ≡ named to n g row 0
named-all to n g row = let e : n ≡ n + 0 = omega arith in let z : g ≡ g - 0 = omega arith in
    ap₂ (λ k c. map pack (map (Add to) (slots_named k (mask_bits c row)))) e z ∙ ap (λ x. map pack (map (Add to) (slots_named (n + 0) (mask_bits (g - 0) x)))) (sym (div-one row))

pub named_none : (to n g row : ℕ) → named to n g row g ≡ []
named_none to n g row = let e : g - g ≡ 0 = omega arith in ap (λ c. map pack (map (Add to) (slots_named (n + g) (mask_bits c (row / 2 ^ g))))) e

zero_of : (x : ℕ) → (x % 2 ≡ 1 → ⊥) → x % 2 ≡ 0
zero_of x e = by_bool (eqb (x % 2) 1) (λ t. absurd (e (eqb-true (x % 2) 1 t))) (λ t. let n = eqb-false (x % 2) 1 t in omega arith)

module _ (to n g row i : ℕ) (h : i < g) where
  rest : mask_bits (g - i) (row / 2 ^ i) ≡ bit 0 (row / 2 ^ i) ∷ mask_bits (g - (i + 1)) (row / 2 ^ (i + 1))
  rest =
      let e : g - i ≡ suc (g - (i + 1)) = omega arith in
      let d : row / 2 ^ i / 2 ≡ row / 2 ^ (i + 1) = div-div-eq-div-mul row (2 ^ i) 2 ∙ ap (λ x. row / x) (sym (pow-suc 2 i) ∙ ap (λ k. 2 ^ k) (sym (add-one i))) in
      ap (λ c. mask_bits c (row / 2 ^ i)) e ∙ ap (λ x. bit 0 (row / 2 ^ i) ∷ mask_bits (g - (i + 1)) x) d

  low : bit_and (row / 2 ^ i) 1 ≡ row / 2 ^ i % 2
  low = and_mask (row / 2 ^ i) 1

  next : suc (n + i) ≡ n + (i + 1)
  next = omega arith

  pub named_in : bit_and (row / 2 ^ i) 1 ≡ 1 → named to n g row i ≡ pack (Add to (n + i)) ∷ named to n g row (i + 1)
  named_in e =
      let b : bit 0 (row / 2 ^ i) ≡ true = ap odd (sym low ∙ e) in
      ap (λ m. map pack (map (Add to) (slots_named (n + i) m))) (rest ∙ ap (λ x. x ∷ mask_bits (g - (i + 1)) (row / 2 ^ (i + 1))) b)
      ∙ ap (λ k. pack (Add to (n + i)) ∷ map pack (map (Add to) (slots_named k (mask_bits (g - (i + 1)) (row / 2 ^ (i + 1)))))) next

  pub named-out : (bit_and (row / 2 ^ i) 1 ≡ 1 → ⊥) → named to n g row i ≡ named to n g row (i + 1)
  named-out e =
      let z : row / 2 ^ i % 2 ≡ 0 = zero_of (row / 2 ^ i) (λ q. e (low ∙ q)) in
      ap (λ m. map pack (map (Add to) (slots_named (n + i) m))) (rest ∙ ap (λ x. x ∷ mask_bits (g - (i + 1)) (row / 2 ^ (i + 1))) (ap odd z))
      ∙ ap (λ k. map pack (map (Add to) (slots_named k (mask_bits (g - (i + 1)) (row / 2 ^ (i + 1)))))) next
