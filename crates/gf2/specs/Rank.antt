-- Independent rows are no more than the linear tests that tell their sums apart.
use Rattle.std.specs.Prelude.{◌≡◌, refl, Bool, true, false, List, [], ◌∷◌, ◌⊎◌, suc, ◌≤◌, length}
use Rattle.std.proofs.Common.{sym, ap, ap₂, ◌∙◌, subst, inl, inr, ⊎_elim, arith}
use Rattle.gf2.specs.Gf2.{Group2, comb}
use Rattle.gf2.specs.Group.{cancel-r}
use Rattle.gf2.specs.Independent.{Indep, Indep.empty, Indep.free}
use Rattle.gf2.specs.Span.{Span, span-zero, span-add, span_head, span_tail, Within, Within.more, within-tail, within-self, span-within}
use Rattle.lists.specs.Lists.{bxor, All, All.nil, All.cons}
use Rattle.lists.specs.Tests.{bxor-self, by_bool}

module _ {A : Type 0} (G : Group2 A) where
  open G use {◌⊕◌, o, assoc, comm, self, zl}

  pub record Hom (f : A → Bool) : Type 0 where
    pub adds : (a b : A) → f (a ⊕ b) ≡ bxor (f a) (f b)

  pub hom-o : {f : A → Bool} → Hom f → f o ≡ false
  hom-o {f} h = ap f (sym (zl o)) ∙ h.adds o o ∙ bxor-self (f o)

  abbrev pub Zero : (A → Bool) → A → Type 0
  Zero f x = f x ≡ false

  pub zero-add : {f : A → Bool} → Hom f → {a b : A} → Zero f a → Zero f b → Zero f (a ⊕ b)
  zero-add h {a} {b} p q = h.adds a b ∙ ap₂ bxor p q

  pub zero-comb : {f : A → Bool} → Hom f → {R : List A} → All (Zero f) R → (m : List Bool) → Zero f (comb G m R)
  zero-comb h nil m = hom-o h
  zero-comb h (cons p z) [] = hom-o h
  zero-comb h (cons p z) (true ∷ m) = zero-add h p (zero-comb h z m)
  zero-comb h (cons p z) (false ∷ m) = zero-comb h z m

  pub zero-span : {f : A → Bool} → Hom f → {R : List A} → All (Zero f) R → {x : A} → Span G R x → Zero f x
  zero-span {f} h z p = subst (Zero f) p.sums (zero-comb h z p.mask)

  record Pivot (f : A → Bool) (X : List A) : Type 0 where
    Z : List A
    size : suc (length Z) ≡ length X
    ind : Indep G Z
    in_x : Within G X Z
    zeros : All (Zero f) Z
    x₀ : A
    x₀-in : Span G X x₀
    x₀-f : f x₀ ≡ true

  pivot : {f : A → Bool} → Hom f → {X : List A} → Indep G X → All (Zero f) X ⊎ Pivot f X
  pivot h empty = inl nil
  pivot {f} h (free {x = x} {X = X} n i) = by_bool (f x) (λ t. one t (pivot h i)) (λ t. two t (pivot h i))
    where
      one : f x ≡ true → All (Zero f) X ⊎ Pivot f X → All (Zero f) (x ∷ X) ⊎ Pivot f (x ∷ X)
      one t (inl z) = inr (record { Z = X; size = refl; ind = i; in_x = within-tail G (within-self G X); zeros = z; x₀ = x; x₀-in = span_head G; x₀-f = t })
      one t (inr s) = inr (record {
        Z = (x ⊕ s.x₀) ∷ s.Z;
        size = ap suc s.size;
        ind = free (λ q. n (subst (Span G X) (cancel-r G x s.x₀) (span-add G (span-within G s.in_x q) s.x₀-in))) s.ind;
        in_x = more (span-add G (span_head G) (span_tail G s.x₀-in)) (within-tail G s.in_x);
        zeros = cons (h.adds x s.x₀ ∙ ap₂ bxor t s.x₀-f) s.zeros;
        x₀ = s.x₀;
        x₀-in = span_tail G s.x₀-in;
        x₀-f = s.x₀-f;
      })

      two : f x ≡ false → All (Zero f) X ⊎ Pivot f X → All (Zero f) (x ∷ X) ⊎ Pivot f (x ∷ X)
      two t (inl z) = inl (cons t z)
      two t (inr s) = inr (record {
        Z = x ∷ s.Z;
        size = ap suc s.size;
        ind = free (λ q. n (span-within G s.in_x q)) s.ind;
        in_x = more (span_head G) (within-tail G s.in_x);
        zeros = cons t s.zeros;
        x₀ = s.x₀;
        x₀-in = span_tail G s.x₀-in;
        x₀-f = s.x₀-f;
      })

  module _ {X : Type 0} (t : X → A → Bool) where
    -- the tests of L tell the sums of R from zero
    pub record Tells (L : List X) (R : List A) : Type 0 where
      pub tell : (x : A) → Span G R x → All (λ l. Zero (t l) x) L → x ≡ o

    pub width : ((l : X) → Hom (t l)) → (L : List X) (R : List A) → Indep G R → Tells L R → length R ≤ length L
    width h [] R empty inj = omega arith
    width h [] R (free {x = x} {X = Y} n i) inj = absurd (n (subst (Span G Y) (sym (inj.tell x (span_head G) nil)) (span-zero G)))
    width h (l ∷ L) R i inj = ⊎_elim
        (λ z. let b = width h L R i (record { tell = λ x p k. inj.tell x p (cons (zero-span (h l) z p) k) }) in omega arith)
        (λ s. let b = width h L s.Z s.ind (record { tell = λ x p k. inj.tell x (span-within G s.in_x p) (cons (zero-span (h l) s.zeros p) k) }) in omega (arith, s.size))
        (pivot (h l) i)
