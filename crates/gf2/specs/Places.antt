-- The row of a list of places, and sums over some of them.
use Rattle.std.specs.Prelude.{◌≡◌, refl, Bool, true, false, cond, List, [], ◌∷◌, ℕ, ◌^◌, eqb}
use Rattle.std.proofs.Common.{sym, ap, ap₂, ◌∙◌}
use Rattle.gf2.specs.Bit.{bit-adds, bit-zero, bit-pow}
use Rattle.gf2.specs.Gf2.{Group2, sum_over, bit, row_of}
use Rattle.gf2.specs.Group.{cancel, left_comm}
use Rattle.lists.specs.Lists.{bxor, par, filter, minus}
use Rattle.lists.specs.Tests.{eqb-true, eqb_comm, by_bool}

pub bit-row : (p : ℕ) (c : List ℕ) → bit p (row_of c) ≡ par p c
bit-row p [] = bit-zero p
bit-row p (q ∷ c) = bit-adds p (2 ^ q) (row_of c) ∙ ap₂ bxor (bit-pow p q) (bit-row p c)

module _ {A : Type 0} (G : Group2 A) where
  open G use {◌⊕◌, o, assoc, comm, self, zl}

  -- what is filtered out is zero
  pub sum-filter : (f : ℕ → Bool) (st : ℕ → A) → ((p : ℕ) → f p ≡ false → st p ≡ o) → (c : List ℕ) → sum_over G st (filter f c) ≡ sum_over G st c
  sum-filter f st h [] = refl
  sum-filter f st h (q ∷ c) = by_bool (f q)
      (λ t. rw (t, filter) (ap (λ x. st q ⊕ x) (sum-filter f st h c)))
      (λ t. rw (t, filter) (sum-filter f st h c ∙ sym (zl _) ∙ ap (λ x. x ⊕ sum_over G st c) (sym (h q t))))

  -- one place apart
  toggle : (b : Bool) (a r : A) → a ⊕ (cond b a o ⊕ r) ≡ cond (bxor true b) a o ⊕ r
  toggle true a r = cancel G a r ∙ sym (zl r)
  toggle false a r = ap (λ x. a ⊕ x) (zl r)

  pub sum-apart : (st : ℕ → A) (p : ℕ) (c : List ℕ) → sum_over G st c ≡ cond (par p c) (st p) o ⊕ sum_over G st (minus c (p ∷ []))
  sum-apart st p [] = sym (zl o)
  sum-apart st p (q ∷ c) = by_bool (eqb p q)
      (λ e. rw (eqb_comm q p, e, ← eqb-true p q e) (ap (λ x. st p ⊕ x) (sum-apart st p c) ∙ toggle (par p c) (st p) _))
      (λ e. rw (eqb_comm q p, e) (ap (λ x. st q ⊕ x) (sum-apart st p c) ∙ left_comm G (st q) _ _))
