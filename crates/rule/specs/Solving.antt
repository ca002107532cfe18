-- A pass over the solved checks, in the order of solving: each solved check then sums to zero.
use Rattle.std.specs.Prelude.{◌≡◌, refl, Bool, true, false, cond, not, ◌||◌, List, [], ◌∷◌, ◌++◌, ◌⊎◌, ℕ, eqb}
use Rattle.std.proofs.Common.{sym, ap, ap₂, ◌∙◌, true≢false, inl, inr}
use Rattle.lists.specs.Tests.{eqb-true, eqb-self, by_bool}
use Rattle.gf2.specs.Gf2.{Group2, sum_over}
use Rattle.lists.specs.ListLaws.{all-rev, all_snoc, has-filter}
use Rattle.lists.specs.Lists.{rev, has, par, minus, filter, All, All.nil, All.cons}
use Rattle.gf2.specs.Places.{sum-apart}
use Rattle.plan.specs.Run.{upd, run, run-append, adds_run, upd_same, upd_other, upd-upd, sum-upd}
use Rattle.rule.specs.Rule.{Solved, clear_and_add, solving_steps}
use Rattle.rule.specs.Solved.{Tri, Tri.done as tdone, Tri.also as talso}

module _ {A : Type 0} (G : Group2 A) where
  open G use {◌⊕◌, o, zl}

  -- a slot that is cleared and given the places c holds their sum
  pub fill-run : (to : ℕ) (c : List ℕ) (st : ℕ → A) → has to c ≡ false → run G st (clear_and_add to c) ≡ upd G st to (sum_over G st c)
  fill-run to c st h =
      adds_run G to c (upd G st to o) h ∙ upd-upd G st to o _
      ∙ ap (upd G st to) (ap₂ ◌⊕◌ (upd_same G st to o) (sum-upd G st to o c h) ∙ zl (sum_over G st c))

-- ---- the order of solving: no own place lies in a check solved earlier
pub data Ord : List Solved → Type 0 where
  done : Ord []
  also : {u : Solved} {us : List Solved} → par u.own u.check ≡ true → All (λ v. has v.own u.check ≡ false) us → Ord us → Ord (u ∷ us)

-- reversed, the order of taking is an order of solving
ord-snoc : {us : List Solved} (t : Solved) → Ord us → All (λ u. has t.own u.check ≡ false) us → par t.own t.check ≡ true → Ord (us ++ (t ∷ []))
ord-snoc t done nil p = also p nil done
ord-snoc t (also q l r) (cons h hs) p = also q (all_snoc l h) (ord-snoc t r hs p)

pub tri-ord : {ts : List Solved} → Tri ts → Ord (rev ts)
tri-ord tdone = done
tri-ord (talso {t = t} p l r) = ord-snoc t (tri-ord r) (all-rev l) p

-- a pass never adds an own place to itself
pub own_out : (p : ℕ) (c F : List ℕ) → has p (minus c (p ∷ F)) ≡ false
own_out p c F = has-filter (λ q. not (has q (p ∷ F))) p c (rw (eqb-self p))

module _ {A : Type 0} (G : Group2 A) where
  open G use {◌⊕◌, o, assoc, comm, self, zl}

  -- two filters that differ only at zeros
  sum-filters : (f g : ℕ → Bool) (st : ℕ → A) → ((p : ℕ) → (st p ≡ o) ⊎ (f p ≡ g p)) → (c : List ℕ) → sum_over G st (filter f c) ≡ sum_over G st (filter g c)
  sum-filters f g st h [] = refl
  sum-filters f g st h (q ∷ c) = go (f q) (g q) (h q) (sum-filters f g st h c)
    where
      skip : st q ≡ o → (x : A) → st q ⊕ x ≡ x
      skip z x = ap (λ y. y ⊕ x) z ∙ zl x

      go : (a b : Bool) → (st q ≡ o) ⊎ (a ≡ b) → sum_over G st (filter f c) ≡ sum_over G st (filter g c)
          → sum_over G st (cond a (q ∷ filter f c) (filter f c)) ≡ sum_over G st (cond b (q ∷ filter g c) (filter g c))
      go true true w ih = ap (λ x. st q ⊕ x) ih
      go true false (inl z) ih = skip z _ ∙ ih
      go true false (inr e) ih = absurd (true≢false e)
      go false true (inl z) ih = ih ∙ sym (skip z _)
      go false true (inr e) ih = absurd (true≢false (sym e))
      go false false w ih = ih

  -- zero at the places F
  abbrev pub Zeros : (ℕ → A) → List ℕ → Type 0
  Zeros st F = (f : ℕ) → has f F ≡ true → st f ≡ o

  -- one solved check
  abbrev solve_one : List ℕ → (ℕ → A) → Solved → ℕ → A
  solve_one F st u = upd G st u.own (sum_over G st (minus u.check (u.own ∷ F)))

  solve-step : (F : List ℕ) (st : ℕ → A) (u : Solved) (us : List Solved) → run G st (solving_steps F (u ∷ us)) ≡ run G (solve_one F st u) (solving_steps F us)
  solve-step F st u us =
      run-append G st (clear_and_add u.own (minus u.check (u.own ∷ F))) (solving_steps F us)
      ∙ ap (λ s. run G s (solving_steps F us)) (fill-run G u.own (minus u.check (u.own ∷ F)) st (own_out u.own u.check F))

  -- a place that nobody owns is left alone
  pub solve-other : (F : List ℕ) (p : ℕ) {us : List Solved} → All (λ u. eqb p u.own ≡ false) us → (st : ℕ → A) → run G st (solving_steps F us) p ≡ st p
  solve-other F p nil st = refl
  solve-other F p (cons {x = u} {l = us} h hs) st = ap (λ s. s p) (solve-step F st u us) ∙ solve-other F p hs (solve_one F st u) ∙ upd_other G st u.own _ p h

  -- so is the sum of a check without own places
  solve-sum : (F c : List ℕ) {us : List Solved} → All (λ u. has u.own c ≡ false) us → (st : ℕ → A) → sum_over G (run G st (solving_steps F us)) c ≡ sum_over G st c
  solve-sum F c nil st = refl
  solve-sum F c (cons {x = u} {l = us} h hs) st = ap (λ s. sum_over G s c) (solve-step F st u us) ∙ solve-sum F c hs (solve_one F st u) ∙ sum-upd G st u.own _ c h

  -- the places F stay zero
  solve-zeros : (F : List ℕ) (st : ℕ → A) (u : Solved) → has u.own F ≡ false → Zeros st F → Zeros (solve_one F st u) F
  solve-zeros F st u n z f h = by_bool (eqb f u.own)
      (λ e. absurd (true≢false (sym h ∙ ap (λ x. has x F) (eqb-true f u.own e) ∙ n)))
      (λ e. rw e (z f h))

  -- each solved check sums to zero, whether the places F are left out or are zero
  pub solve-zero : (F : List ℕ) {us : List Solved} → Ord us → All (λ u. has u.own F ≡ false) us → (st : ℕ → A) → Zeros st F
      → All (λ u. sum_over G (run G st (solving_steps F us)) u.check ≡ o) us
  solve-zero F done n st z = nil
  solve-zero F (also {u = u} {us = us} p l r) (cons n ns) st z = rw (solve-step F st u us) (cons
      (solve-sum F u.check l (solve_one F st u) ∙ one)
      (solve-zero F r ns (solve_one F st u) (solve-zeros F st u n z)))
    where
      own : ℕ
      own = u.own

      rest : A
      rest = sum_over G st (minus u.check (own ∷ []))

      alike : sum_over G st (minus u.check (own ∷ F)) ≡ rest
      alike = sum-filters (λ q. not (has q (own ∷ F))) (λ q. not (has q (own ∷ []))) st
          (λ q. by_bool (has q F) (λ e. inl (z q e)) (λ e. inr (ap (λ b. not (eqb q own || b)) e))) u.check

      one : sum_over G (solve_one F st u) u.check ≡ o
      one = sum-apart G (solve_one F st u) own u.check
          ∙ ap₂ ◌⊕◌ (ap (λ b. cond b (solve_one F st u own) o) p ∙ upd_same G st own _ ∙ alike) (sum-upd G st own _ (minus u.check (own ∷ [])) (own_out own u.check []))
          ∙ self rest
