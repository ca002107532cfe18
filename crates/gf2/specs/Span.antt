-- 'The sum of some of these rows', as a mask, as a test, and its laws.
use Rattle.std.specs.Prelude.{◌≡◌, refl, Bool, true, false, List, [], ◌∷◌}
use Rattle.std.proofs.Common.{sym, ap, ap₂, ◌∙◌, subst}
use Rattle.gf2.specs.Gf2.{Group2, comb, is_sum}
use Rattle.gf2.specs.Group.{ring, zr, cancel, left_comm}
use Rattle.lists.specs.Lists.{bxor}
use Rattle.lists.specs.Tests.{by_bool, or_l, or_r}

-- masks add place by place, the shorter one padded
abbrev pub madd : List Bool → List Bool → List Bool
madd [] n = n
madd (a ∷ m) [] = a ∷ m
madd (a ∷ m) (b ∷ n) = bxor a b ∷ madd m n

module _ {A : Type 0} (G : Group2 A) where
  open G use {◌⊕◌, o, assoc, comm, self, zl}

  -- nominal, so that R and x are found from a proof
  pub record Span (R : List A) (x : A) : Type 0 where
    pub mask : List Bool
    pub sums : comb G mask R ≡ x

  pub comb-nil : (R : List A) → comb G [] R ≡ o
  comb-nil [] = refl
  comb-nil (r ∷ R) = refl

  pub comb-add : (m n : List Bool) (R : List A) → comb G (madd m n) R ≡ comb G m R ⊕ comb G n R
  comb-add m n [] = sym (zl o)
  comb-add [] n (r ∷ R) = sym (zl _)
  comb-add (a ∷ m) [] (r ∷ R) = sym (zr G _)
  comb-add (true ∷ m) (true ∷ n) (r ∷ R) = comb-add m n R ∙ simp (ring, G)
  comb-add (true ∷ m) (false ∷ n) (r ∷ R) = ap (λ x. r ⊕ x) (comb-add m n R) ∙ sym (assoc _ _ _)
  comb-add (false ∷ m) (true ∷ n) (r ∷ R) = ap (λ x. r ⊕ x) (comb-add m n R) ∙ left_comm G _ _ _
  comb-add (false ∷ m) (false ∷ n) (r ∷ R) = comb-add m n R

  pub span-zero : {R : List A} → Span R o
  span-zero {R} = record { mask = []; sums = comb-nil R }

  pub span-add : {R : List A} {x y : A} → Span R x → Span R y → Span R (x ⊕ y)
  span-add {R} p q = record { mask = madd p.mask q.mask; sums = comb-add p.mask q.mask R ∙ ap₂ ◌⊕◌ p.sums q.sums }

  pub span_head : {r : A} {R : List A} → Span (r ∷ R) r
  span_head {r} {R} = record { mask = true ∷ []; sums = ap (λ x. r ⊕ x) (comb-nil R) ∙ zr G r }

  pub span_tail : {r : A} {R : List A} {x : A} → Span R x → Span (r ∷ R) x
  span_tail p = record { mask = false ∷ p.mask; sums = p.sums }

  -- every row of R is a sum of rows of S
  pub data Within (S : List A) : List A → Type 0 where
    none : Within S []
    more : {r : A} {R : List A} → Span S r → Within S R → Within S (r ∷ R)

  within-comb : {S R : List A} → Within S R → (m : List Bool) → Span S (comb G m R)
  within-comb none m = span-zero
  within-comb (more p w) [] = span-zero
  within-comb (more p w) (true ∷ m) = span-add p (within-comb w m)
  within-comb (more p w) (false ∷ m) = within-comb w m

  pub span-within : {R S : List A} → Within S R → {x : A} → Span R x → Span S x
  span-within {S = S} w p = subst (Span S) p.sums (within-comb w p.mask)

  pub within-trans : {S R Q : List A} → Within S R → Within R Q → Within S Q
  within-trans w none = none
  within-trans w (more p v) = more (span-within w p) (within-trans w v)

  pub within-tail : {S R : List A} {s : A} → Within S R → Within (s ∷ S) R
  within-tail none = none
  within-tail (more p w) = more (span_tail p) (within-tail w)

  pub within-self : (R : List A) → Within R R
  within-self [] = none
  within-self (r ∷ R) = more span_head (within-tail (within-self R))

  module _ (is_zero : A → Bool) (is_zero-sound : (x : A) → is_zero x ≡ true → x ≡ o) (is_zero-o : is_zero o ≡ true) where
    pub is_sum-sound : (R : List A) (x : A) → is_sum G is_zero R x ≡ true → Span R x
    is_sum-sound [] x t = record { mask = []; sums = sym (is_zero-sound x t) }
    is_sum-sound (r ∷ R) x t = by_bool (is_sum G is_zero R x)
        (λ e. span_tail (is_sum-sound R x e))
        (λ e. let p = is_sum-sound R (r ⊕ x) (rw e at t) in record { mask = true ∷ p.mask; sums = ap (λ y. r ⊕ y) p.sums ∙ cancel G r x })

    is_sum-comb : (m : List Bool) (R : List A) → is_sum G is_zero R (comb G m R) ≡ true
    is_sum-comb m [] = is_zero-o
    is_sum-comb [] (r ∷ R) = or_l _ _ (rw (comb-nil R) at (is_sum-comb [] R))
    is_sum-comb (true ∷ m) (r ∷ R) = or_r (is_sum G is_zero R _) _ (rw (cancel G r (comb G m R)) (is_sum-comb m R))
    is_sum-comb (false ∷ m) (r ∷ R) = rw (is_sum-comb m R)

    pub is_sum-complete : (R : List A) (x : A) → Span R x → is_sum G is_zero R x ≡ true
    is_sum-complete R x p = subst (λ y. is_sum G is_zero R y ≡ true) p.sums (is_sum-comb p.mask R)
