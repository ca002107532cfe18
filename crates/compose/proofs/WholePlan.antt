-- The whole plan of an accepted table from its phases: its numbers section by section, their limits, and how many steps are clear steps.
use mathlib.Core.Path.{◌≡◌, refl, sym, ap, ap₂, ◌∙◌}
use mathlib.Core.List.{List, [], ◌∷◌, ◌++◌}
use Prim.Native.Nat.{ℕ, zero, suc, ◌+◌, ◌≤◌}
use native.Mathlib.Omega.{arith}
use lib.ListN.{length, get_or, take, drop, length-append}
use lib.Seq.{take-suc, length-take-le}
use Rattle.table.specs.Checks.{check}
use Rattle.lists.specs.Lists.{written, Wrote}
use Rattle.table.specs.Table.{most_checks, places, number, checks}
use Rattle.table.specs.TableLaws.{accepted}
use Rattle.plan.specs.declared.Step.{Step}
use Rattle.plan.specs.Head.{HeadFits}
use Rattle.plan.specs.Layout.{most_steps, least_plan, least_numbers, plan_head, info_numbers, step_numbers, plan_numbers, info_count_at}
use Rattle.plan.specs.Step.{add_steps}
use Rattle.rule.specs.Choices.{by_rule}
use Rattle.rule.proofs.WithinLimits.{steps-limit, numbers-limit, kept-length}
use Rattle.rule.specs.Buffers.{solved, peeling}
use Rattle.rule.specs.PlanOf.{plan_of, numbers_of, numbers_by, plan_of_by}
use Rattle.rule.specs.Rule.{Solved, owns, plan_steps, fitted_places, solved_of, set_aside_of}
use Rattle.emit.specs.Emit.{Room, solved_in, aside_in}
use Rattle.lists.specs.WroteLaws.{wrote-is, wrote-length, wrote-append}
use Rattle.emit.specs.PackedLaws.{packed-length}
use Rattle.compose.specs.Compose.{plan_steps_in, clear_count, free_places, info_places, Phases, Composed}
use Rattle.compose.proofs.ClearSteps.{clears-are}
use Rattle.compose.proofs.Sections.{aside-length}

-- ---- a list written from the start
wrote-whole : {l ws e : List ℕ} {r : ℕ} → Wrote l 0 ws e r → e ≡ ws ++ drop (length ws) l
wrote-whole {l} {ws} w = let z : 0 + length ws ≡ length ws = omega arith in w.list ∙ ap (λ k. ws ++ drop k l) z

-- ---- the solved checks
owns-snoc : (l : List Solved) (x : Solved) → owns (l ++ (x ∷ [])) ≡ owns l ++ (x.own ∷ [])
owns-snoc [] x = refl
owns-snoc (y ∷ l) x = ap (λ r. y.own ∷ r) (owns-snoc l x)

owns-are : (f : ℕ → List ℕ) (order us : List ℕ) (k : ℕ) → k ≤ length us → owns (solved f order us k) ≡ take k us
unfolding solved
owns-are f order us zero h = refl
owns-are f order us (suc k) h = owns-snoc (solved f order us k) _ ∙ ap (λ l. l ++ (get_or us k 0 ∷ [])) (owns-are f order us k (omega arith)) ∙ sym (take-suc us k 0 h)

solved-length : (f : ℕ → List ℕ) (order us : List ℕ) (k : ℕ) → length (solved f order us k) ≡ k
unfolding solved
solved-length f order us zero = refl
solved-length f order us (suc k) = let h = solved-length f order us k in length-append (solved f order us k) _ ∙ (omega arith)

-- ---- an accepted table
module _ {t starts order us : List ℕ} {taken : ℕ} {aside : List ℕ} {g : ℕ} {fs rows : List ℕ} (q : Phases t starts order us taken aside g fs rows) where
  -- the steps and the information places
  abbrev pub steps : List Step
  steps = plan_steps_in t order us taken aside g

  abbrev pub info : List ℕ
  info = info_places (places t) us taken fs g

  steps-are : (plan_of t).steps ≡ steps
  unfolding plan_of_by
  steps-are = ap₂ (plan_steps (places t)) q.chosen.took q.chosen.set-aside

  fitted-are : fitted_places (places t) (solved_of (peeling t)) (set_aside_of (peeling t)) ≡ take g fs
  fitted-are = ap₂ (fitted_places (places t)) q.chosen.took q.chosen.set-aside ∙ sym q.fits.places

  info-are : (plan_of t).info ≡ info
  unfolding plan_of_by
  info-are = ap₂ (λ x y. free_places (places t) (x ++ y))
      (ap owns q.chosen.took ∙ owns-are (check t (number t)) order us taken q.chosen.room.1.0) fitted-are

  gap-are : (plan_of t).g ≡ g
  unfolding plan_of_by
  gap-are = ap length q.chosen.set-aside ∙ aside-length q

  -- the numbers, section by section
  numbers-are : {kept : ℕ} → kept ≡ (plan_of t).M → plan_numbers (places t) g kept info steps ≡ numbers_of t
  unfolding numbers_by
  numbers-are e = ap₂ (λ x y. plan_numbers (places t) x y info steps) (sym gap-are) e
      ∙ ap₂ (plan_numbers (places t) (plan_of t).g (plan_of t).M) (sym info-are) (sym steps-are)

  -- within the limits
  pub steps-few : length steps ≤ most_steps
  unfolding plan_of_by
  steps-few = let d = accepted t q.located.table.accepted in let f = q.few in
      let h = steps-limit by_rule (places t) (checks t) d.distinct d.low d.few_ones (omega (arith, gap-are)) in omega (arith, ap length steps-are)

  numbers-few : least_numbers + length info + length steps ≤ least_plan
  unfolding plan_of_by
  numbers-few = let d = accepted t q.located.table.accepted in let f = q.few in
      let h = numbers-limit by_rule (places t) (checks t) d.distinct d.low d.few-places d.few_ones (omega (arith, gap-are)) in omega (arith, ap length steps-are, ap length info-are)

  kept_low : {kept : ℕ} → kept ≡ (plan_of t).M → kept ≤ most_checks
  unfolding plan_of_by
  kept_low e = let d = accepted t q.located.table.accepted in let h = kept-length (checks t) in let n = d.few-checks in omega arith

  pub head-fits : {w : List ℕ} {n kept : ℕ} → kept ≡ (plan_of t).M → least_plan ≤ length w → n ≡ places t → HeadFits w n g kept
  head-fits e r a = let d = accepted t q.located.table.accepted in record {
    room = omega arith;
    few-places = let h = d.few-places in omega arith;
    few-aside = q.few;
    few-kept = kept_low e;
  }

  -- add steps and clear steps
  pub clears-count : length steps ≡ add_steps (plan_of t).steps + clear_count taken g
  clears-count =
      let z = aside-length q in
      let l = solved-length (check t (number t)) order us taken in
      let T = solved_in t order us taken in
      let Z = aside_in t aside g in
      let f : length (fitted_places (places t) T Z) ≡ length Z = ap length (sym q.fits.places) ∙ length-take-le g fs q.fits.room.0 ∙ sym z in
      clears-are (places t) T Z f ∙ ap₂ (λ x y. add_steps x + y) (sym steps-are) (ap₂ clear_count l z)

  pub taken-few : taken ≤ least_plan
  taken-few = let c = clears-count in let s = steps-few in most taken g (omega arith)
    where
      most : (a b : ℕ) → clear_count a b ≤ most_steps → a ≤ least_plan
      most a zero h = omega arith
      most a (suc b) h = omega arith

  -- ---- the three sections, one after the other
  module _ (l : List ℕ) (big : least_plan ≤ length l) {n kept : ℕ} {e₁ : List ℕ} (en : n ≡ places t) (h : e₁ ≡ written l 0 (plan_head n g kept)) where
    head-wrote : Wrote l 0 (plan_head (places t) g kept) e₁ info_count_at
    head-wrote = record { list = h ∙ ap (λ x. written l 0 (plan_head x g kept)) en; next = refl }

    head-long : length e₁ ≡ length l
    head-long = wrote-length head-wrote (omega arith)

    pub info-room : info_count_at + 1 + length (info_places n us taken fs g) ≤ length e₁
    info-room = let f = numbers-few in let e = head-long in rw en (omega arith)

    module _ {e₂ : List ℕ} {k : ℕ} (i : Wrote e₁ info_count_at (info_numbers (info_places n us taken fs g)) e₂ k) where
      info-wrote : Wrote e₁ info_count_at (info_numbers info) e₂ k
      info-wrote = wrote-is i (ap (λ x. info_numbers (info_places x us taken fs g)) en)

      two-wrote : Wrote l 0 (plan_head (places t) g kept ++ info_numbers info) e₂ k
      two-wrote = wrote-append (omega arith) head-wrote info-wrote

      pub steps-room : Room e₂ (k + 1) steps
      steps-room = let f = numbers-few in let a = info-wrote.next in let b = wrote-length two-wrote (omega arith) in omega arith

      module _ {e₃ : List ℕ} {r : ℕ} (w : Wrote e₂ k (step_numbers steps) e₃ r) where
        pub steps-end : r ≡ k + 1 + length steps
        steps-end = let a = w.next in let p = packed-length steps in omega arith

        pub composed : {adds : ℕ} → kept ≡ (plan_of t).M → adds + clear_count taken g ≡ length steps → Composed t l e₃ r adds
        composed nk e =
            let a = info-wrote.next in
            let f = numbers-few in
            let all = wrote-is (wrote-append (omega arith) two-wrote w) (numbers-are nk) in
            let c = clears-count in
            record { list = wrote-whole all; numbers = all.next ∙ (omega arith); additions = omega arith }
