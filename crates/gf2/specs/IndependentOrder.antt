-- Independent members stay independent in another order.
use Rattle.std.proofs.Common.{subst, ⊎_elim}
use Rattle.std.specs.Prelude.{List, [], ◌∷◌, ◌++◌, ℕ}
use Rattle.gf2.specs.Gf2.{Group2, xor_group}
use Rattle.gf2.specs.Group.{cancel-r}
use Rattle.gf2.specs.Independent.{Indep, Indep.free, split}
use Rattle.gf2.specs.Span.{Span, span-add, span_head, span_tail, span-within, Within, Within.more, within-tail, within-self}

module _ {A : Type 0} (G : Group2 A) where
  -- the first two exchanged
  pub indep-swap : {x y : A} {X : List A} → Indep G (x ∷ y ∷ X) → Indep G (y ∷ x ∷ X)
  indep-swap {x} {y} {X} (free n (free k i)) = free
      (λ p. ⊎_elim (λ q. k q) (λ q. n (subst (Span G (y ∷ X)) (cancel-r G x y) (span-add G (span_tail G q) (span_head G)))) (split G p))
      (free (λ p. n (span_tail G p)) i)

  pub indep-head : {x : A} {X : List A} → Indep G (x ∷ X) → ¬ Span G X x
  indep-head (free n i) = n

  pub indep-tail : {x : A} {X : List A} → Indep G (x ∷ X) → Indep G X
  indep-tail (free n i) = i

  -- one more member in the middle
  pub within-insert : {S : List A} (X T : List A) (c : A) → Within G S (X ++ T) → Span G S c → Within G S (X ++ (c ∷ T))
  within-insert [] T c w p = more p w
  within-insert (x ∷ X) T c (more q w) p = more q (within-insert X T c w p)

  -- the first pushed into the middle
  pub indep-push : (X T : List A) (c : A) → Indep G (c ∷ (X ++ T)) → Indep G (X ++ (c ∷ T))
  indep-push [] T c i = i
  indep-push (x ∷ X) T c i = let j = indep-swap i in free
      (λ p. indep-head j (span-within G (within-insert X T c (within-tail G (within-self G (X ++ T))) (span_head G)) p))
      (indep-push X T c (indep-tail j))

-- one from the middle pulled to the front
pub indep-pull : (X T : List ℕ) (c : ℕ) → Indep xor_group (X ++ (c ∷ T)) → Indep xor_group (c ∷ (X ++ T))
indep-pull [] T c i = i
indep-pull (x ∷ X) T c (free n i) = indep-swap xor_group (free (λ p. n (span-within xor_group (out X) p)) (indep-pull X T c i))
  where
    out : (X : List ℕ) → Within xor_group (X ++ (c ∷ T)) (c ∷ (X ++ T))
    out [] = within-self xor_group (c ∷ T)
    out (x ∷ X) = go (out X)
      where
        go : {S R : List ℕ} → Within xor_group S (c ∷ R) → Within xor_group (x ∷ S) (c ∷ x ∷ R)
        go (more p w) = more (span_tail xor_group p) (more (span_head xor_group) (within-tail xor_group w))

-- a sum of the later ones is one of all
pub span-after : (X : List ℕ) {T : List ℕ} {x : ℕ} → Span xor_group T x → Span xor_group (X ++ T) x
span-after [] p = p
span-after (x ∷ X) p = span_tail xor_group (span-after X p)
