-- Marks of the slots that need no clearing: what they say of one step more in front, and the plan's steps from the last on.
use mathlib.Core.Path.{◌≡◌, refl, sym, ap, ap₂, ◌∙◌}
use mathlib.Core.Bool.{Bool, true, false, beq, cond, not, true≢false}
use mathlib.Core.List.{List, [], ◌∷◌}
use mathlib.Core.Logic.{⊎_elim}
use Prim.Native.Nat.{ℕ, suc, ◌+◌, ◌-◌, ◌<◌, ◌≤◌}
use native.Mathlib.Omega.{arith}
use borrow.Author.Tests.{eqb-true, eqb-false}
use lib.Dec.{eqb}
use lib.ListN.{length, get_or, set, take, drop, replicate, length-set, length-take, get_or-eq_default, drop_of_length-le}
use lib.Seq.{drop-cons, get_or-take, get_or-set_same, get_or-set_other, length-take-le}
use Rattle.lists.specs.ListLaws.{get_d-zeros}
use Rattle.lists.specs.Tests.{by_bool, side}
use Rattle.plan.specs.declared.Step.{Step}
use Rattle.plan.specs.declared.Step.TheVariants.{Clear, Add}
use Rattle.plan.specs.Layout.{slots, step_count, steps_at, steps_of}
use Rattle.plan.specs.LayoutLaws.{Formed, steps-length, step-sound}
use Rattle.plan.specs.LookOver.{is_marked}
use Rattle.plan.specs.Step.{unpack, SlotsBelow}
use Rattle.slots.specs.RunLaws.{step-there}
use Rattle.slots.specs.Runs.{step_in}
use Rattle.start.specs.Start.{Marked, MarkedOnly}

-- ---- marks
marked-at : (m : List ℕ) (i v p : ℕ) → i < length m → is_marked (set m i v) p ≡ cond (eqb p i) (eqb v 1) (is_marked m p)
marked-at m i v p h = by_bool (eqb p i)
    (λ e. rw (e, eqb-true p i e) (ap (λ (x : ℕ). eqb x 1) (get_or-set_same m i v 0 h)))
    (λ e. rw e (ap (λ (x : ℕ). eqb x 1) (get_or-set_other m i p v 0 (eqb-false p i e))))

pub marked-none : (n : ℕ) → Marked [] (replicate n 0)
marked-none n = record { each = λ p h. ap (λ (x : ℕ). eqb x 1) (get_d-zeros n p) }

-- past their end there is none
unmarked-past : (m : List ℕ) (p : ℕ) → length m ≤ p → is_marked m p ≡ false
unmarked-past m p l = ap (λ (x : ℕ). eqb x 1) (get_or-eq_default m 0 l)

pub only-marked : {xs : List Step} {m : List ℕ} → Marked xs m → MarkedOnly xs m
only-marked {xs} {m} k = record {
  only = λ p h. ⊎_elim (λ l. sym (k.each p l) ∙ h) (λ l. absurd (true≢false (sym h ∙ unmarked-past m p l))) (side p (length m));
}

pub only_none : (xs : List Step) {m : List ℕ} → Marked [] m → MarkedOnly xs m
only_none xs {m} k = record {
  only = λ p h. absurd (true≢false (sym h ∙ ⊎_elim (λ l. k.each p l) (λ l. unmarked-past m p l) (side p (length m))));
}

-- a mark compared with the one that is looked for
pub marked-unlike : (a b : Bool) → not (beq a b) ≡ true → a ≡ not b
marked-unlike true true e = sym e
marked-unlike true false e = refl
marked-unlike false true e = refl
marked-unlike false false e = e

pub marked-like : (a b : Bool) → not (beq a b) ≡ false → a ≡ b
marked-like true true e = refl
marked-like true false e = e
marked-like false true e = sym e
marked-like false false e = refl

-- one step more in front
pub mark-clear : {xs : List Step} {m : List ℕ} (to : ℕ) → to < length m → Marked xs m → Marked (Clear to ∷ xs) (set m to 1)
mark-clear {xs} {m} to h k = record {
  each = λ p l. marked-at m to 1 p h ∙ by_bool (eqb p to) (λ e. rw e) (λ e. rw e (k.each p (let z = length-set m to 1 in omega arith)));
}

pub mark-add : {xs : List Step} {m : List ℕ} (to from : ℕ) → to < length m → from < length m → Marked xs m → Marked (Add to from ∷ xs) (set (set m to 0) from 0)
mark-add {xs} {m} to from h g k = record {
  each = λ p l.
      let z = length-set m to 0 in let y = length-set (set m to 0) from 0 in
      marked-at (set m to 0) from 0 p (omega arith) ∙ ap (cond (eqb p from) false) (marked-at m to 0 p h)
      ∙ by_bool (eqb p to) (λ e. by_bool (eqb p from) (λ f. rw (e, f)) (λ f. rw (e, f)))
      (λ e. by_bool (eqb p from) (λ f. rw (e, f)) (λ f. rw (e, f) (k.each p (omega arith))));
}

-- ---- a plan's steps
module _ (w : List ℕ) (f : Formed w) (at : ℕ) (e : at ≡ steps_at w) (x : Step) where
  -- its slots are there
  pub step-below : (i : ℕ) → i < step_count w → x ≡ step_in (unpack (get_or w (at + i) 0)) → {m : ℕ} → slots w ≤ m → SlotsBelow m x
  step-below i h is_x {m} le = wider x (rw (is_x ∙ step-there w f at e (Clear 0) i h) (step-sound w f (Clear 0) i h).below)
    where
      wider : (y : Step) → SlotsBelow (slots w) y → SlotsBelow m y
      wider (Clear to) b = omega arith
      wider (Add to from) b = (omega (arith, b.0), omega (arith, b.1))

  -- it stands in front of those from i on
  pub step-in-front : (steps i : ℕ) → steps ≤ step_count w → 0 < i → i ≤ steps → x ≡ step_in (unpack (get_or w (at + (i - 1)) 0))
      → x ∷ drop i (take steps (steps_of w)) ≡ drop (i - 1) (take steps (steps_of w))
  step-in-front steps i all h le is_x =
      let l = take steps (steps_of w) in
      let long = length-take-le steps (steps_of w) (omega (arith, steps-length w f)) in
      let j : suc (i - 1) ≡ i = omega arith in
      ap₂ (λ y (k : ℕ). y ∷ drop k l) (is_x ∙ step-there w f at e (Clear 0) (i - 1) (omega arith) ∙ sym (get_or-take steps (steps_of w) (i - 1) (Clear 0) (omega arith))) (sym j)
      ∙ sym (drop-cons l (i - 1) (Clear 0) (omega arith))

pub no-more-steps : (k : ℕ) (xs : List Step) → drop k (take k xs) ≡ []
no-more-steps k xs = drop_of_length-le (take k xs) {i = k} (let e = length-take k xs in omega arith)
