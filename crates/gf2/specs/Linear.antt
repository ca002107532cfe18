-- Linear functions between groups of exponent 2: they pass through sums. And a sum of independent members, carried over to other members.
use Rattle.std.specs.Prelude.{◌≡◌, refl, Bool, true, false, List, [], ◌∷◌, map, length}
use Rattle.std.proofs.Common.{sym, ap, ap₂, ◌∙◌, arith}
use Rattle.gf2.specs.Gf2.{Group2, sum_over, comb}
use Rattle.gf2.specs.Group.{cancel, eq-zero}
use Rattle.gf2.specs.Independent.{Indep, Indep.empty, Indep.free}
use Rattle.gf2.specs.Span.{madd, comb-add, Span, Within, Within.none, Within.more}
use Rattle.lists.specs.Lists.{All, All.nil, All.cons}

-- f of a sum is the sum of both f
pub record Lin {A B : Type 0} (G : Group2 A) (K : Group2 B) (f : A → B) : Type 0 where
  pub adds : (a b : A) → f (G.◌⊕◌ a b) ≡ K.◌⊕◌ (f a) (f b)

module _ {A B : Type 0} (G : Group2 A) (K : Group2 B) {f : A → B} (h : Lin G K f) where
  -- of zero
  pub lin-o : f G.o ≡ K.o
  lin-o = sym (cancel K (f G.o) (f G.o)) ∙ ap (λ x. K.◌⊕◌ (f G.o) x) (sym (h.adds G.o G.o) ∙ ap f (G.zl G.o)) ∙ K.self (f G.o)

  -- of the members that a mask names
  pub lin-comb : (m : List Bool) (R : List A) → f (comb G m R) ≡ comb K m (map f R)
  lin-comb m [] = lin-o
  lin-comb [] (r ∷ R) = lin-o
  lin-comb (true ∷ m) (r ∷ R) = h.adds r (comb G m R) ∙ ap (λ x. K.◌⊕◌ (f r) x) (lin-comb m R)
  lin-comb (false ∷ m) (r ∷ R) = lin-comb m R

  -- of a sum over a list
  pub lin-sum : {X : Type 0} (g : X → A) (l : List X) → f (sum_over G g l) ≡ sum_over K (λ x. f (g x)) l
  lin-sum g [] = lin-o
  lin-sum g (x ∷ l) = h.adds (g x) (sum_over G g l) ∙ ap (λ y. K.◌⊕◌ (f (g x)) y) (lin-sum g l)

  -- a sum of members that all go to zero
  pub lin-none : {R : List A} → All (λ r. f r ≡ K.o) R → (m : List Bool) → f (comb G m R) ≡ K.o
  lin-none nil m = lin-o
  lin-none (cons p a) [] = lin-o
  lin-none (cons {x = r} {l = R} p a) (true ∷ m) = h.adds r (comb G m R) ∙ ap₂ K.◌⊕◌ p (lin-none a m) ∙ K.zl K.o
  lin-none (cons p a) (false ∷ m) = lin-none a m

  pub lin-span : {R : List A} → All (λ r. f r ≡ K.o) R → {x : A} → Span G R x → f x ≡ K.o
  lin-span a q = ap f (sym q.sums) ∙ lin-none a q.mask

  -- of members that stand for others
  module _ {X : Type 0} (g : X → A) where
    pub lin-image : (m : List Bool) (l : List X) → f (comb G m (map g l)) ≡ comb K m (map (λ x. f (g x)) l)
    lin-image m [] = lin-o
    lin-image [] (x ∷ l) = lin-o
    lin-image (true ∷ m) (x ∷ l) = h.adds (g x) (comb G m (map g l)) ∙ ap (λ y. K.◌⊕◌ (f (g x)) y) (lin-image m l)
    lin-image (false ∷ m) (x ∷ l) = lin-image m l

    -- a sum goes to a sum
    pub span-image : (l : List X) {y : A} → Span G (map g l) y → Span K (map (λ x. f (g x)) l) (f y)
    span-image l q = record { mask = q.mask; sums = sym (lin-image q.mask l) ∙ ap f q.sums }

  -- all sums go to sums
  pub within-image : {X Y : Type 0} (g : X → A) (k : Y → A) (l : List X) (r : List Y) → Within G (map g l) (map k r) → Within K (map (λ x. f (g x)) l) (map (λ y. f (k y)) r)
  within-image g k l [] w = none
  within-image g k l (y ∷ r) (more p w) = more (span-image g l p) (within-image g k l r w)

module _ {A B : Type 0} (G : Group2 A) (K : Group2 B) where
  -- ---- a sum of independent rows says which rows: so it can be carried over to other rows
  carry-zero : {R : List A} → Indep G R → (S : List B) → length R ≡ length S → (m : List Bool) → comb G m R ≡ G.o → comb K m S ≡ K.o
  carry-zero empty [] l m e = refl
  carry-zero empty (s ∷ S) l m e = absurd (omega arith)
  carry-zero (free n i) [] l m e = absurd (omega arith)
  carry-zero (free n i) (s ∷ S) l [] e = refl
  carry-zero (free {x = x} {X = R} n i) (s ∷ S) l (true ∷ m) e = absurd (n (record { mask = m; sums = sym (eq-zero G x (comb G m R) e) }))
  carry-zero (free n i) (s ∷ S) l (false ∷ m) e = carry-zero i S (omega arith) m e

  pub carry : {R : List A} → Indep G R → (S : List B) → length R ≡ length S → (m k : List Bool) → comb G m R ≡ comb G k R → comb K m S ≡ comb K k S
  carry {R} i S l m k e = eq-zero K _ _ (sym (comb-add K m k S) ∙ carry-zero i S l (madd m k) (comb-add G m k R ∙ ap (λ x. G.◌⊕◌ x (comb G k R)) e ∙ G.self (comb G k R)))
