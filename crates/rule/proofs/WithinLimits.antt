-- The rule's plan is within the encoder's limits, and its numbers fit the planner's buffer.
use Rattle.std.specs.Prelude.{◌≡◌, refl, Bool, List, [], ◌∷◌, ℕ, ◌+◌, ◌*◌, ◌<◌, ◌≤◌, length}
use Rattle.std.proofs.Common.{sym, ap, ◌∙◌, subst, mul-le-mul, arith, length-append}
use Rattle.lists.specs.Ascending.{up-filter, down-rev, down-below}
use Rattle.gf2.specs.Gf2.{is_zero, choose, xor_group, row_of, is_sum}
use Rattle.lists.specs.ListLaws.{length-rev}
use Rattle.lists.specs.Lists.{Distinct, rev, All, Up}
use Rattle.lists.specs.Tests.{by_bool}
use Rattle.table.specs.Table.{most_places, most_ones, ones}
use Rattle.plan.specs.Layout.{most_aside, most_steps, least_plan, least_numbers}
use Rattle.rule.specs.Choices.{Chooses}
use Rattle.rule.proofs.AllChecksZero.{ts, az, F, peels}
use Rattle.rule.specs.Buffers.{mask_width}
use Rattle.rule.proofs.Bound.{pass, asides-some, fitting-most, peels-ones, square-more, fitted-number}
use Rattle.rule.specs.Count.{solving-clears, scratch-clears, fitting-clears, solved_ones, count-scratch}
use Rattle.rule.proofs.Info.{peels-count, info-number}
use Rattle.rule.specs.Rule.{Solved, solving_steps, scratch_steps, fitting_steps, steps_with_gap, kept, plan_by, Plan, plan_steps, fitted_places, inverse, reduced}

-- the length of the whole list
pub length-steps : (n : ℕ) (T : List Solved) (z : List (List ℕ)) (X : List ℕ) (inv : ℕ → List Bool)
    → length (steps_with_gap n T z X inv) ≡ length (solving_steps X (rev T)) + (length (scratch_steps n X z) + (length (fitting_steps n inv X) + length (solving_steps [] (rev T))))
length-steps n T z X inv = length-append (solving_steps X (rev T)) _ ∙ ap (λ x. length (solving_steps X (rev T)) + x)
    (length-append (scratch_steps n X z) _ ∙ ap (λ x. length (scratch_steps n X z) + x) (length-append (fitting_steps n inv X) _))

-- ---- kept checks are some of the checks
choose-few : (f : List ℕ → ℕ) (K : List ℕ) (cs : List (List ℕ)) → (length (choose xor_group is_zero f K cs) ≤ length cs) × (ones (choose xor_group is_zero f K cs) ≤ ones cs)
choose-few f K [] = (omega arith, omega arith)
choose-few f K (c ∷ cs) = by_bool (is_sum xor_group is_zero K (f c))
    (λ e. let r = choose-few f K cs in rw (e, choose) (omega (arith, r.0), omega (arith, r.1)))
    (λ e. let r = choose-few f (f c ∷ K) cs in rw (e, choose) (omega (arith, r.0), omega (arith, r.1)))

pub kept-length : (cs : List (List ℕ)) → length (kept cs) ≤ length cs
kept-length cs = (choose-few row_of [] cs).0

-- nor more ones
pub kept-weight : (cs : List (List ℕ)) → ones (kept cs) ≤ ones cs
kept-weight cs = (choose-few row_of [] cs).1

-- the information places are strictly ascending
pub info-up : (ch : Chooses) (n : ℕ) (cs : List (List ℕ)) → Up 0 (plan_by ch.choice n cs).info
info-up ch n cs = up-filter _ (down-rev (down-below n))

-- the limit on steps is what 2W + g(g + 1) comes to at the limits on ones and on checks set aside
pub steps-bound : most_steps ≡ 2 * most_ones + most_aside * (most_aside + 1)
steps-bound = refl

-- a row of the inverse has a bit for each check that a plan may set aside
pub aside-width : {g : ℕ} → g ≤ most_aside → g ≤ mask_width
aside-width h = omega arith

module _ (ch : Chooses) (n : ℕ) (cs : List (List ℕ)) (d : All Distinct cs) (low : All (λ c. All (λ p. p < n) c) cs) where
  -- short names
  abbrev P : Plan
  P = plan_by ch.choice n cs

  abbrev T : List Solved
  T = ts ch n cs d low

  abbrev Z : List (List ℕ)
  Z = az ch n cs d low

  abbrev FF : List ℕ
  FF = F ch n cs d low

  abbrev g : ℕ
  g = P.g

  -- only kept checks are set aside
  pub aside-few : g ≤ P.M
  aside-few = let e : P.M ≡ length T + g = peels-count (peels ch n cs d low) in omega arith

  -- by whether a check was set aside
  parts : (z : List (List ℕ)) → z ≡ Z → length (plan_steps n T z) ≤ 2 * solved_ones T + (ones Z + g) + (g * g + g)
  parts [] e = let h = pass ch n cs d low [] in let k = solving-clears [] (rev T) in let r = length-rev T in omega arith
  parts (c ∷ z) e = subst (λ y. length (steps_with_gap n T y (fitted_places n T y) (inverse (reduced T y) (fitted_places n T y))) ≤ 2 * solved_ones T + (ones Z + g) + (g * g + g)) (sym e)
      (let i = inverse (reduced T Z) FF in let r = length-rev T in
      let a = pass ch n cs d low FF in let a' = solving-clears FF (rev T) in
      let b = pass ch n cs d low [] in let b' = solving-clears [] (rev T) in
      let c = count-scratch n FF Z in let c' = scratch-clears n FF Z in
      let f = fitting-most ch n cs d low in let f' = fitting-clears n i FF in let f'' = fitted-number ch n cs d low in
      let h = length-steps n T Z FF i in omega arith)

  -- all steps, clear and add, number at most 2W + g(g + 1)
  steps-most : length P.steps ≤ 2 * P.W + g * (g + 1)
  steps-most = let a = parts Z refl in let b = asides-some ch n cs d low in
      let e : P.W ≡ solved_ones T + ones Z = peels-ones (peels ch n cs d low) in
      let f = square-more g in omega arith

  -- so they are within the encoder's limit (`steps-bound`) ..
  pub steps-limit : ones cs ≤ most_ones → g ≤ most_aside → length P.steps ≤ most_steps
  steps-limit w h = let a = steps-most in let b : P.W ≤ ones cs = kept-weight cs in
      let c : g * (g + 1) ≤ most_aside * (most_aside + 1) = mul-le-mul {m₁ = g + 1} {m₂ = most_aside + 1} h (omega arith) in
      let l = steps-bound in omega arith

  -- .. and the plan's numbers within the planner's buffer
  pub numbers-limit : n ≤ most_places → ones cs ≤ most_ones → g ≤ most_aside → least_numbers + length P.info + length P.steps ≤ least_plan
  numbers-limit l w h = let a = steps-limit w h in let b = info-number ch n cs d low in omega arith
