-- The fitted places, the inverse, and what it solves.
use Rattle.std.specs.Prelude.{◌≡◌, refl, Bool, true, false, cond, List, [], ◌∷◌, map, ℕ, ◌^◌, eqb, length}
use Rattle.std.proofs.Common.{sym, ap, ap₂, ◌∙◌, subst, true≢false, arith}
use Rattle.std.proofs.lemmas.Bool.{false≢true}
use Rattle.std.specs.Int.Bits.{bit_xor}
use Rattle.std.proofs.lemmas.List.{length-map}
use Rattle.gf2.specs.Gf2.{bit, is_zero, Group2, xor_group, sum_over, comb, is_sum}
use Rattle.gf2.specs.Bit.{bit-adds, bit-hom, bit-zero, bit-pow}
use Rattle.lists.specs.Tests.{eqb-true, eqb-self, or-false-l, or-false-r, by_bool}
use Rattle.gf2.specs.Columns.{is_zero-sound}
use Rattle.lists.specs.Lists.{bxor, Distinct, Distinct.dnil, Distinct.dnew, has, All, All.nil, All.cons}
use Rattle.gf2.specs.Group.{eq-zero}
use Rattle.gf2.specs.Independent.{Indep, Indep.empty, Indep.free}
use Rattle.gf2.specs.Linear.{Lin, lin-comb, carry}
use Rattle.gf2.specs.RowValue.{val_on, val_on-lin, sum-ext-in}
use Rattle.gf2.specs.Span.{comb-nil, Span, span-zero, span-add, span_head, span_tail, span-within, Within, Within.none, Within.more, madd, comb-add, is_sum-sound, is_sum-complete}
use Rattle.lists.specs.ListLaws.{all_map}
use Rattle.gf2.specs.Rank.{Tells, width}
use Rattle.rule.specs.Rule.{restricted}

module _ {A B : Type 0} (G : Group2 A) (K : Group2 B) {f : A → B} (h : Lin G K f) where
  indep-map : {R : List A} → Indep G R → ((x : A) → Span G R x → f x ≡ K.o → x ≡ G.o) → Indep K (map f R)
  indep-map empty inj = empty
  indep-map (free {x = x} {X = X} n i) inj = free
      (λ p. n (record {
        mask = p.mask;
        sums = sym (eq-zero G x (comb G p.mask X) (inj _
            (span-add G (span_head G) (span_tail G (record { mask = p.mask; sums = refl })))
            (h.adds x (comb G p.mask X) ∙ ap (λ y. K.◌⊕◌ (f x) y) (lin-comb G K h p.mask X ∙ p.sums) ∙ K.self (f x))));
      }))
      (indep-map i (λ y q. inj y (span_tail G q)))

abbrev pub pow : ℕ → ℕ
pow p = 2 ^ p

abbrev pub units : List ℕ → List ℕ
units F = map pow F

unit-out : (p : ℕ) (F : List ℕ) → has p F ≡ false → (m : List Bool) → bit p (comb xor_group m (units F)) ≡ false
unit-out p [] h m = bit-zero p
unit-out p (q ∷ F) h [] = bit-zero p
unit-out p (q ∷ F) h (true ∷ m) = bit-adds p (2 ^ q) (comb xor_group m (units F)) ∙ ap₂ bxor (bit-pow p q ∙ or-false-l (eqb p q) (has p F) h) (unit-out p F (or-false-r (eqb p q) (has p F) h) m)
unit-out p (q ∷ F) h (false ∷ m) = unit-out p F (or-false-r (eqb p q) (has p F) h) m

units-zero : {F : List ℕ} → Distinct F → (m : List Bool) → All (λ f. bit f (comb xor_group m (units F)) ≡ false) F → comb xor_group m (units F) ≡ 0
units-zero dnil m a = refl
units-zero (dnew h d) [] a = refl
units-zero (dnew {x = q} {l = F} h d) (true ∷ m) (cons e a) = absurd (true≢false
    (sym (bit-adds q (2 ^ q) (comb xor_group m (units F)) ∙ ap₂ bxor (bit-pow q q ∙ eqb-self q) (unit-out q F h m)) ∙ e))
units-zero (dnew h d) (false ∷ m) (cons e a) = units-zero d m a

unit-in : (p : ℕ) (F : List ℕ) → has p F ≡ true → Span xor_group (units F) (2 ^ p)
unit-in p [] h = absurd (false≢true h)
unit-in p (q ∷ F) h = by_bool (eqb p q)
    (λ e. subst (λ x. Span xor_group (units (q ∷ F)) (2 ^ x)) (sym (eqb-true p q e)) (span_head xor_group))
    (λ e. span_tail xor_group (unit-in p F (rw e at h)))

res-in : (e : ℕ) (F : List ℕ) → Span xor_group (units F) (restricted F e)
res-in e [] = span-zero xor_group
res-in e (q ∷ F) = go (bit q e) (res-in e F)
  where
    go : (b : Bool) → Span xor_group (units F) (restricted F e) → Span xor_group (units (q ∷ F)) (bit_xor (cond b (2 ^ q) 0) (restricted F e))
    go true s = span-add xor_group (span_head xor_group) (span_tail xor_group s)
    go false s = span_tail xor_group s

-- nothing is lost: the digits at F are those of the row
res-bits : {F : List ℕ} → Distinct F → (e : ℕ) → restricted F e ≡ 0 → All (λ f. bit f e ≡ false) F
res-bits dnil e z = nil
res-bits (dnew {x = q} {l = F} h d) e z = go (bit q e) refl (λ z. res-bits d e z) z
  where
    out : bit q (restricted F e) ≡ false
    out = let p = res-in e F in ap (bit q) (sym p.sums) ∙ unit-out q F h p.mask

    go : (b : Bool) → bit q e ≡ b → (restricted F e ≡ 0 → All (λ f. bit f e ≡ false) F) → bit_xor (cond b (2 ^ q) 0) (restricted F e) ≡ 0 → All (λ f. bit f e ≡ false) (q ∷ F)
    go true k ih z = absurd (true≢false (sym (bit-adds q (2 ^ q) (restricted F e) ∙ ap₂ bxor (bit-pow q q ∙ eqb-self q) out) ∙ ap (bit q) z ∙ bit-zero q))
    go false k ih z = cons k (ih z)

pub res-bit-out : (p : ℕ) (F : List ℕ) → has p F ≡ false → (e : ℕ) → bit p (restricted F e) ≡ false
res-bit-out p F h e = let s = res-in e F in ap (bit p) (sym s.sums) ∙ unit-out p F h s.mask

xor-false-r : (a : Bool) → bxor a false ≡ a
xor-false-r true = refl
xor-false-r false = refl

pub res-bit-in : (p : ℕ) {F : List ℕ} → Distinct F → has p F ≡ true → (e : ℕ) → bit p (restricted F e) ≡ bit p e
res-bit-in p dnil h e = absurd (false≢true h)
res-bit-in p (dnew {x = q} {l = F} k d) h e = bit-adds p (cond (bit q e) (2 ^ q) 0) (restricted F e) ∙ by_bool (eqb p q)
    (λ t. let w = eqb-true p q t in
    ap₂ bxor (ap (λ x. bit p (cond (bit x e) (2 ^ x) 0)) (sym w) ∙ self-bit (bit p e)) (res-bit-out p F (ap (λ x. has x F) w ∙ k) e) ∙ xor-false-r (bit p e))
    (λ t. ap₂ bxor (other-bit (bit q e) t) (res-bit-in p d (rw t at h) e))
  where
    self-bit : (b : Bool) → bit p (cond b (2 ^ p) 0) ≡ b
    self-bit true = bit-pow p p ∙ eqb-self p
    self-bit false = bit-zero p

    other-bit : (b : Bool) → eqb p q ≡ false → bit p (cond b (2 ^ q) 0) ≡ false
    other-bit true t = bit-pow p q ∙ t
    other-bit false t = bit-zero p

module _ (E F : List ℕ) (d : Distinct F) (ind : Indep xor_group E) (tells : Tells xor_group bit F E) (same : length F ≡ length E) where
  abbrev square : List ℕ
  square = map (restricted F) E

  pub square-indep : Indep xor_group square
  square-indep = indep-map xor_group xor_group (val_on-lin xor_group pow F) ind (λ x p z. tells.tell x p (res-bits d x z))

  units-told : (R : List ℕ) → Within xor_group (units F) R → Tells xor_group bit F R
  units-told R w = record {
    tell = λ x p a.
        let q = span-within xor_group w p in
        sym q.sums ∙ units-zero d q.mask (all_map (λ f e. ap (bit f) q.sums ∙ e) a);
  }

  square-in : (E : List ℕ) → Within xor_group (units F) (map (restricted F) E)
  square-in [] = none
  square-in (e ∷ E) = more (res-in e F) (square-in E)

  -- each unit is a sum of rows
  pub unit-spanned : (f : ℕ) → has f F ≡ true → Span xor_group square (2 ^ f)
  unit-spanned f h = by_bool (is_sum xor_group is_zero square (2 ^ f))
      (λ e. is_sum-sound xor_group is_zero is_zero-sound refl square (2 ^ f) e)
      (λ e. let b = width xor_group bit bit-hom F (2 ^ f ∷ square)
      (free (λ p. false≢true (sym e ∙ is_sum-complete xor_group is_zero is_zero-sound refl square (2 ^ f) p)) square-indep)
      (units-told (2 ^ f ∷ square) (more (unit-in f F h) (square-in E))) in
      absurd (omega (arith, length-map E (restricted F))))

-- ---- the sum of the masks that a row names
module _ (inv : ℕ → List Bool) (x : ℕ) where
  abbrev msum : List ℕ → List Bool
  msum [] = []
  msum (f ∷ F) = cond (bit f x) (madd (inv f) (msum F)) (msum F)

  comb-msum : {B : Type 0} (K : Group2 B) (S : List B) (F : List ℕ) → comb K (msum F) S ≡ sum_over K (λ f. cond (bit f x) (comb K (inv f) S) K.o) F
  comb-msum K S [] = comb-nil K S
  comb-msum K S (f ∷ F) = go (bit f x) (comb-msum K S F)
    where
      go : (b : Bool) → comb K (msum F) S ≡ sum_over K (λ f. cond (bit f x) (comb K (inv f) S) K.o) F
          → comb K (cond b (madd (inv f) (msum F)) (msum F)) S ≡ K.◌⊕◌ (cond b (comb K (inv f) S) K.o) (sum_over K (λ f. cond (bit f x) (comb K (inv f) S) K.o) F)
      go true ih = comb-add K (inv f) (msum F) S ∙ ap (λ y. K.◌⊕◌ (comb K (inv f) S) y) ih
      go false ih = ih ∙ sym (K.zl _)

-- the fitted places as the inverse names them solve every sum of rows
module _ (E F : List ℕ) (inv : ℕ → List Bool) (ind : Indep xor_group (map (restricted F) E)) (good : All (λ f. comb xor_group (inv f) (map (restricted F) E) ≡ 2 ^ f) F) where
  pub solves : {B : Type 0} (K : Group2 B) (S : List B) → length E ≡ length S → (d : ℕ → B) → All (λ f. d f ≡ comb K (inv f) S) F
      → (k : List Bool) → val_on K d F (comb xor_group k E) ≡ comb K k S
  solves K S l d h k =
      sum-ext-in K (all_map (λ f e. ap (λ y. cond (bit f (comb xor_group k E)) y K.o) e) h)
      ∙ sym (comb-msum inv (comb xor_group k E) K S F)
      ∙ carry xor_group K ind S (length-map E (restricted F) ∙ l) (msum inv (comb xor_group k E) F) k
      (comb-msum inv (comb xor_group k E) xor_group (map (restricted F) E) F
      ∙ sum-ext-in xor_group (all_map (λ f e. ap (λ y. cond (bit f (comb xor_group k E)) y 0) e) good)
      ∙ lin-comb xor_group xor_group (val_on-lin xor_group pow F) k E)
