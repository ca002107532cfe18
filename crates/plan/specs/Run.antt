-- What the steps do to a state that gives each slot a member of a group of exponent 2: clear puts zero, add adds.
use Rattle.std.specs.Prelude.{◌≡◌, refl, false, cond, List, [], ◌∷◌, ◌++◌, map, ℕ, eqb}
use Rattle.std.proofs.Common.{sym, ap, ap₂, ◌∙◌}
use Rattle.std.proofs.Math.Path.{fun_ext}
use Rattle.lists.specs.Tests.{eqb-true, eqb-self, eqb_comm, or-false-l, or-false-r, by_bool}
use Rattle.gf2.specs.Gf2.{Group2, sum_over}
use Rattle.gf2.specs.Group.{zr}
use Rattle.lists.specs.Lists.{has}
use Rattle.plan.specs.declared.Step.{Step}
use Rattle.plan.specs.declared.Step.TheVariants.{Clear, Add}

module _ {A : Type 0} (G : Group2 A) where
  open G use {◌⊕◌, o, assoc, comm, self, zl}

  -- the state with a at slot i
  abbrev pub upd : (ℕ → A) → ℕ → A → ℕ → A
  upd st i a j = cond (eqb j i) a (st j)

  -- one step
  abbrev pub step : (ℕ → A) → Step → ℕ → A
  step st (Clear to) = upd st to o
  step st (Add to from) = upd st to (st to ⊕ st from)

  -- the steps in order
  abbrev pub run : (ℕ → A) → List Step → ℕ → A
  run st [] = st
  run st (x ∷ xs) = run (step st x) xs

  pub run-append : (st : ℕ → A) (xs ys : List Step) → run st (xs ++ ys) ≡ run (run st xs) ys
  run-append st [] ys = refl
  run-append st (x ∷ xs) ys = run-append (step st x) xs ys

  -- slot by slot
  pub upd_same : (st : ℕ → A) (i : ℕ) (a : A) → upd st i a i ≡ a
  upd_same st i a = rw (eqb-self i)

  pub upd_other : (st : ℕ → A) (i : ℕ) (a : A) (j : ℕ) → eqb j i ≡ false → upd st i a j ≡ st j
  upd_other st i a j e = rw e

  -- nothing changes where a stands there already
  upd-id : (st : ℕ → A) (i : ℕ) (a : A) → a ≡ st i → upd st i a ≡ st
  upd-id st i a h = fun_ext (λ j. by_bool (eqb j i) (λ e. rw e (h ∙ ap st (sym (eqb-true j i e)))) (λ e. rw e))

  pub upd-upd : (st : ℕ → A) (i : ℕ) (a b : A) → upd (upd st i a) i b ≡ upd st i b
  upd-upd st i a b = fun_ext (λ j. by_bool (eqb j i) (λ e. rw e) (λ e. rw e))

  -- a sum in which the slot does not stand
  pub sum-upd : (st : ℕ → A) (i : ℕ) (a : A) (c : List ℕ) → has i c ≡ false → sum_over G (upd st i a) c ≡ sum_over G st c
  sum-upd st i a [] h = refl
  sum-upd st i a (q ∷ c) h = ap₂ ◌⊕◌
      (upd_other st i a q (eqb_comm q i ∙ or-false-l (eqb i q) (has i c) h))
      (sum-upd st i a c (or-false-r (eqb i q) (has i c) h))

  -- the places c added into a slot, one after the other
  pub adds_run : (to : ℕ) (c : List ℕ) (st : ℕ → A) → has to c ≡ false → run st (map (Add to) c) ≡ upd st to (st to ⊕ sum_over G st c)
  adds_run to [] st h = sym (upd-id st to (st to ⊕ o) (zr G (st to)))
  adds_run to (p ∷ c) st h =
      adds_run to c (upd st to (st to ⊕ st p)) (or-false-r (eqb to p) (has to c) h)
      ∙ upd-upd st to (st to ⊕ st p) _
      ∙ ap (upd st to) (ap₂ ◌⊕◌ (upd_same st to (st to ⊕ st p)) (sum-upd st to (st to ⊕ st p) c (or-false-r (eqb to p) (has to c) h)) ∙ assoc (st to) (st p) (sum_over G st c))
