-- Independent rows, and how many there can be (Steinitz).
use Rattle.std.specs.Prelude.{◌≡◌, Bool, true, false, List, [], ◌∷◌, ◌⊎◌}
use Rattle.std.proofs.Common.{subst, inl, inr}
use Rattle.gf2.specs.Gf2.{Group2, comb}
use Rattle.gf2.specs.Group.{move}
use Rattle.gf2.specs.Span.{Span, span-zero}

module _ {A : Type 0} (G : Group2 A) where
  open G use {◌⊕◌, o, assoc, comm, self, zl}

  pub data Indep : List A → Type 0 where
    empty : Indep []
    free : {x : A} {X : List A} → ¬ Span G X x → Indep X → Indep (x ∷ X)

  -- with the first row or without it
  pub split : {y x : A} {Y : List A} → Span G (y ∷ Y) x → Span G Y x ⊎ Span G Y (y ⊕ x)
  split {y} {x} {Y} p = go p.mask p.sums
    where
      go : (m : List Bool) → comb G m (y ∷ Y) ≡ x → Span G Y x ⊎ Span G Y (y ⊕ x)
      go [] e = inl (subst (Span G Y) e (span-zero G))
      go (true ∷ m) e = inr (record { mask = m; sums = move G y (comb G m Y) x e })
      go (false ∷ m) e = inl (record { mask = m; sums = e })
