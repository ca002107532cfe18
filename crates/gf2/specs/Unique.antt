-- The mask of a sum of independent rows is the only one.
use Rattle.std.specs.Prelude.{◌≡◌, refl, Bool, true, false, List, [], ◌∷◌, length}
use Rattle.std.proofs.Common.{sym, ◌∙◌, ap, arith}
use Rattle.std.proofs.Math.Nat.{suc_inj}
use Rattle.gf2.specs.Gf2.{Group2, comb}
use Rattle.gf2.specs.Group.{zr, cancel, cancel-r, left_comm}
use Rattle.gf2.specs.Independent.{Indep, Indep.empty, Indep.free}
use Rattle.gf2.specs.Span.{madd, comb-add}

module _ {A : Type 0} (G : Group2 A) where
  open G use {◌⊕◌, o, assoc, comm, self, zl}

  pub mask-unique : {R : List A} → Indep G R → (m k : List Bool) → length m ≡ length R → length k ≡ length R → comb G m R ≡ comb G k R → m ≡ k
  mask-unique empty [] [] lm lk e = refl
  mask-unique empty [] (b ∷ k) lm lk e = absurd (omega arith)
  mask-unique empty (a ∷ m) k lm lk e = absurd (omega arith)
  mask-unique (free n i) [] k lm lk e = absurd (omega arith)
  mask-unique (free n i) (a ∷ m) [] lm lk e = absurd (omega arith)
  mask-unique (free {x = x} {X = R} n i) (true ∷ m) (true ∷ k) lm lk e = ap (λ r. true ∷ r) (mask-unique i m k (suc_inj lm) (suc_inj lk) (sym (cancel G x (comb G m R)) ∙ ap (λ y. x ⊕ y) e ∙ cancel G x (comb G k R)))
  mask-unique (free n i) (false ∷ m) (false ∷ k) lm lk e = ap (λ r. false ∷ r) (mask-unique i m k (suc_inj lm) (suc_inj lk) e)
  mask-unique (free {x = x} {X = R} n i) (true ∷ m) (false ∷ k) lm lk e = absurd (n (record { mask = madd m k; sums = comb-add G m k R ∙ ap (λ y. comb G m R ⊕ y) (sym e) ∙ left_comm G _ _ _ ∙ ap (λ y. x ⊕ y) (self _) ∙ zr G x }))
  mask-unique (free {x = x} {X = R} n i) (false ∷ m) (true ∷ k) lm lk e = absurd (n (record { mask = madd m k; sums = comb-add G m k R ∙ ap (λ y. y ⊕ comb G k R) e ∙ cancel-r G x _ }))
