-- How many of the steps are clear steps.
use mathlib.Core.Path.{◌≡◌, refl}
use mathlib.Core.List.{List, [], ◌∷◌}
use Prim.Native.Nat.{ℕ, zero, suc, ◌+◌, ◌*◌}
use native.Mathlib.Omega.{arith}
use lib.ListN.{length}
use Rattle.lists.specs.ListLaws.{length-rev}
use Rattle.lists.specs.Lists.{rev}
use Rattle.plan.specs.Step.{add_steps}
use Rattle.rule.proofs.WithinLimits.{length-steps}
use Rattle.rule.proofs.Bound.{count-steps}
use Rattle.rule.specs.Count.{solving-clears, scratch-clears, fitting-clears}
use Rattle.rule.specs.Rule.{Solved, plan_steps, fitted_places, inverse, reduced}
use Rattle.compose.specs.Compose.{clear_count}

-- all steps
pub clears-are : (n : ℕ) (T : List Solved) (Z : List (List ℕ)) → length (fitted_places n T Z) ≡ length Z → length (plan_steps n T Z) ≡ add_steps (plan_steps n T Z) + clear_count (length T) (length Z)
clears-are n T [] h = let a = solving-clears [] (rev T) in let r = length-rev T in omega arith
clears-are n T (c ∷ z) h =
    let Z = c ∷ z in
    let F = fitted_places n T Z in
    let inv = inverse (reduced T Z) F in
    let r = length-rev T in
    let a = solving-clears F (rev T) in
    let b = scratch-clears n F Z in
    let d = fitting-clears n inv F in
    let e = solving-clears [] (rev T) in
    let l = length-steps n T Z F inv in
    let s = count-steps n T Z F inv in
    omega arith

pub clears-some : (taken g : ℕ) → (g ≡ 0 → ⊥) → 2 * taken + 2 * g ≡ clear_count taken g
clears-some taken zero h = absurd (h refl)
clears-some taken (suc g) h = refl
