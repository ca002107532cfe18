-- The steps where checks were set aside: each solved check and each check set aside sums to zero after them.
use Rattle.std.specs.Prelude.{◌≡◌, refl, Bool, true, false, cond, not, List, [], ◌∷◌, map, ℕ, ◌^◌, ◌<◌, eqb, length}
use Rattle.std.proofs.Common.{sym, ap, ap₂, ◌∙◌, subst, true≢false, arith}
use Rattle.std.proofs.lemmas.Bool.{false≢true}
use Rattle.std.proofs.Math.Bool.{not-not}
use Rattle.std.proofs.lemmas.List.{length-map}
use Rattle.gf2.specs.Gf2.{bit, Group2, xor_group, sum_over, row_of, comb}
use Rattle.lists.specs.Tests.{eqb-true, by_bool}
use Rattle.lists.specs.Lists.{below, Distinct, rev, has, minus, All, All.nil, All.cons}
use Rattle.gf2.specs.Group.{zr, left_comm}
use Rattle.gf2.specs.Independent.{Indep}
use Rattle.gf2.specs.Linear.{lin-sum, lin-o}
use Rattle.lists.specs.ListLaws.{all-rev, all-unrev, none_has, all-self, has-none, all-zip, all-has, below_of, all_map, all_of}
use Rattle.gf2.specs.Places.{sum-filter}
use Rattle.gf2.specs.RowValue.{at, val, val_on, val-lin, val-pow, val-row, val-add, sum-ext, sum-ext-in}
use Rattle.gf2.specs.Span.{comb-nil}
use Rattle.plan.specs.Run.{run, run-append}
use Rattle.rule.specs.Inverse.{pow, res-bit-in, res-bit-out, solves}
use Rattle.rule.specs.Rule.{Solved, row, put_in_all, solving_steps, restricted, scratch_steps, fitting_steps, owns, steps_with_gap}
use Rattle.rule.specs.ScratchAndFitting.{scratch-low, scratch-reads, fitting-other, fitting-run}
use Rattle.rule.specs.Solved.{Tri, put_in_all-clears, val-put_in}
use Rattle.rule.specs.Solving.{solve-other, solve-zero, Zeros, tri-ord}

-- every member as a sum of the members
pick_all : {X A B : Type 0} (G : Group2 A) (K : Group2 B) (f : X → A) (g : X → B) (l : List X)
    → All (λ x. (k : List Bool) × (comb G k (map f l) ≡ f x) × (comb K k (map g l) ≡ g x)) l
pick_all G K f g [] = nil
pick_all G K f g (x ∷ l) = cons
    (true ∷ [], ap (λ y. G.◌⊕◌ (f x) y) (comb-nil G (map f l)) ∙ zr G (f x), ap (λ y. K.◌⊕◌ (g x) y) (comb-nil K (map g l)) ∙ zr K (g x))
    (all_map (λ y r. (false ∷ r.0, r.1, r.2)) (pick_all G K f g l))

-- What the steps leave: the solved checks and those set aside sum to zero, and a place that nobody owns and that isn't fitted is as it was.
pub record AfterSteps {A : Type 0} (G : Group2 A) (n : ℕ) (ts : List Solved) (az : List (List ℕ)) (F : List ℕ) (before after : ℕ → A) : Type 0 where
  pub solved : All (λ t. sum_over G after t.check ≡ G.o) ts
  pub asides : All (λ c. sum_over G after c ≡ G.o) az
  pub others : (p : ℕ) → p < n → has p F ≡ false → has p (owns ts) ≡ false → after p ≡ before p

module _ {A : Type 0} (G : Group2 A) (n : ℕ) (ts : List Solved) (az : List (List ℕ)) (F : List ℕ) (inv : ℕ → List Bool)
    (tri : Tri ts) (low_t : All (λ t. All (λ p. p < n) t.check) ts) (low_a : All (λ c. All (λ p. p < n) c) az)
    (low_f : All (λ f. f < n) F) (d_f : Distinct F) (free_f : All (λ t. has t.own F ≡ false) ts)
    (ind : Indep xor_group (map (restricted F) (map (λ c. put_in_all ts (row_of c)) az)))
    (good : All (λ f. comb xor_group (inv f) (map (restricted F) (map (λ c. put_in_all ts (row_of c)) az)) ≡ 2 ^ f) F)
    (lens : All (λ f. length (inv f) ≡ length az) F)
    (st0 : ℕ → A) (zeros : Zeros G st0 F) where
  open G use {◌⊕◌, o, assoc, comm, self, zl}

  abbrev us : List Solved
  us = rev ts

  abbrev st1 : ℕ → A
  st1 = run G st0 (solving_steps F us)

  abbrev S : List A
  S = map (λ c. sum_over G st1 (minus c F)) az

  abbrev st2 : ℕ → A
  st2 = run G st1 (scratch_steps n F az)

  abbrev st3 : ℕ → A
  st3 = run G st2 (fitting_steps n inv F)

  abbrev st4 : ℕ → A
  st4 = run G st3 (solving_steps [] us)

  z1 : All (λ u. sum_over G st1 u.check ≡ o) us
  z1 = solve-zero G F (tri-ord tri) (all-rev free_f) st0 zeros

  z4 : All (λ u. sum_over G st4 u.check ≡ o) us
  z4 = solve-zero G [] (tri-ord tri) (all_of (λ u. refl) us) st3 (λ f h. absurd (false≢true h))

  not_own : (f : ℕ) → has f F ≡ true → All (λ u. eqb f u.own ≡ false) us
  not_own f h = all-rev (all_map (λ u k. by_bool (eqb f u.own)
      (λ e. absurd (true≢false (sym h ∙ ap (λ x. has x F) (eqb-true f u.own e) ∙ k))) (λ e. e)) free_f)

  zeros1 : Zeros G st1 F
  zeros1 f h = solve-other G F f (not_own f h) st0 ∙ zeros f h

  val1 : All (λ t. val G st1 n (row t) ≡ o) ts
  val1 = all_map (λ t r. val-row G st1 n r.1 ∙ r.0) (all-zip (all-unrev ts z1) low_t)

  val4 : All (λ t. val G st4 n (row t) ≡ o) ts
  val4 = all_map (λ t r. val-row G st4 n r.1 ∙ r.0) (all-zip (all-unrev ts z4) low_t)

  abbrev d : ℕ → A
  d p = st4 p ⊕ st1 p

  -- what the passes leave alone
  keep4 : (p : ℕ) → p < n → has p F ≡ false → has p (owns us) ≡ false → st4 p ≡ st1 p
  keep4 p l h k = solve-other G [] p (none_has (λ t. t.own) p us k) st3 ∙ fitting-other G n inv S p low_f h st2 ∙ scratch-low G n F p n low_a (omega arith) l st1

  d-fitted : All (λ f. d f ≡ comb G (inv f) S) F
  d-fitted = all_map (λ f r. ap₂ ◌⊕◌ (solve-other G [] f (not_own f r.1) st3 ∙ r.0) (zeros1 f r.1) ∙ zr G _)
      (all-zip (fitting-run G n inv S d_f low_f (all_map (λ f e. e ∙ sym (length-map az (λ c. sum_over G st1 (minus c F)))) lens) st2
      (scratch-reads G n F n low_a (omega arith) st1)) (all-self F))

  none-owns : (p : ℕ) → has p (owns ts) ≡ false → has p (owns us) ≡ false
  none-owns p k = has-none (λ t. t.own) p (all-rev (none_has (λ t. t.own) p ts k))

  -- of the difference only the fitted places count
  d-at : (e p : ℕ) → p < n → at G d (put_in_all ts e) p ≡ at G d (restricted F (put_in_all ts e)) p
  d-at e p l = by_bool (has p F)
      (λ h. ap (λ b. cond b (d p) o) (sym (res-bit-in p d_f h (put_in_all ts e))))
      (λ h. by_bool (has p (owns ts))
      (λ k. ap (λ b. cond b (d p) o) (all-has (λ q. bit q (put_in_all ts e) ≡ false) (λ t. t.own) p k (put_in_all-clears tri e)))
      (λ k. ap (λ x. cond (bit p (put_in_all ts e)) x o) (ap (λ x. x ⊕ st1 p) (keep4 p l h (none-owns p k)) ∙ self (st1 p)) ∙ cond-o (bit p (put_in_all ts e)))
      ∙ sym (ap (λ b. cond b (d p) o) (res-bit-out p F h (put_in_all ts e))))
    where
      cond-o : (b : Bool) → cond b o o ≡ o
      cond-o true = refl
      cond-o false = refl

  d-val : (e : ℕ) → val G d n (put_in_all ts e) ≡ val_on G d F (put_in_all ts e)
  d-val e = sum-ext-in G (below_of n (d-at e))
      ∙ lin-sum xor_group G (val-lin G d n) (at xor_group pow (put_in_all ts e)) F
      ∙ sum-ext-in G (all_map (λ f l. one f l (bit f (put_in_all ts e))) low_f)
    where
      one : (f : ℕ) → f < n → (b : Bool) → val G d n (cond b (2 ^ f) 0) ≡ cond b (d f) o
      one f l true = val-pow G d n f l
      one f l false = lin-o xor_group G (val-lin G d n)

  aside-zero : (c : List ℕ) → All (λ p. p < n) c → (k : List Bool) → comb xor_group k (map (λ c. put_in_all ts (row_of c)) az) ≡ put_in_all ts (row_of c)
      → comb G k S ≡ sum_over G st1 (minus c F) → sum_over G st4 c ≡ o
  aside-zero c low k ek es =
      sym (val-row G st4 n low) ∙ sym (val-put_in G st4 n val4 (row_of c))
      ∙ sum-ext G (λ p. ap (λ x. cond (bit p (put_in_all ts (row_of c))) x o) (sym (left_comm G (st1 p) (st4 p) (st1 p) ∙ ap (λ x. st4 p ⊕ x) (self (st1 p)) ∙ zr G (st4 p)))) (below n)
      ∙ val-add G st1 d n (put_in_all ts (row_of c))
      ∙ ap₂ ◌⊕◌
      (val-put_in G st1 n val1 (row_of c) ∙ val-row G st1 n low ∙ sym (sum-filter G (λ p. not (has p F)) st1 (λ p h. zeros1 p (sym (not-not (has p F)) ∙ ap not h)) c))
      (d-val (row_of c) ∙ ap (val_on G d F) (sym ek) ∙ solves (map (λ c. put_in_all ts (row_of c)) az) F inv ind good G S (length-map az (λ c. put_in_all ts (row_of c)) ∙ sym (length-map az (λ c. sum_over G st1 (minus c F)))) d d-fitted k ∙ es)
      ∙ self _

  asides-zero : All (λ c. sum_over G st4 c ≡ o) az
  asides-zero = all_map (λ c r. aside-zero c r.0 r.1.0 r.1.1 r.1.2)
      (all-zip low_a (pick_all xor_group G (λ c. put_in_all ts (row_of c)) (λ c. sum_over G st1 (minus c F)) az))

  -- the whole list
  pub after-steps : AfterSteps G n ts az F st0 (run G st0 (steps_with_gap n ts az F inv))
  after-steps = subst (AfterSteps G n ts az F st0)
      (sym (run-append G st0 (solving_steps F us) _ ∙ run-append G st1 (scratch_steps n F az) _ ∙ run-append G st2 (fitting_steps n inv F) _))
      (record {
        solved = all-unrev ts z4;
        asides = asides-zero;
        others = λ p l h k. keep4 p l h (none-owns p k) ∙ solve-other G F p (none_has (λ t. t.own) p us (none-owns p k)) st0;
      })
