-- The plan from the buffers of the earlier phases: its steps, its information places, and what the whole writes.
use Rattle.std.specs.Prelude.{◌≡◌, List, ◌++◌, ℕ, zero, suc, ◌+◌, ◌*◌, ◌≤◌, length, take}
use Rattle.lists.specs.Lists.{below, rev, minus}
use Rattle.table.specs.Accepted.{Located}
use Rattle.table.specs.Table.{places, number}
use Rattle.plan.specs.declared.Step.{Step}
use Rattle.plan.specs.Layout.{most_aside}
use Rattle.plan.specs.Step.{add_steps}
use Rattle.rule.specs.Buffers.{Chosen, Fitted}
use Rattle.rule.specs.PlanOf.{plan_of, numbers_of, with_numbers}
use Rattle.rule.specs.Rule.{Solved, steps_with_gap, fitted_places, inverse, reduced, plan_steps}
use Rattle.emit.specs.Emit.{solved_in, aside_in}

-- ---- the steps
-- where checks were set aside
abbrev pub gap_steps : ℕ → List Solved → List (List ℕ) → List Step
gap_steps n ts az = let F = fitted_places n ts az in steps_with_gap n ts az F (inverse (reduced ts az) F)

-- from the buffers
abbrev pub gap_steps_in : List ℕ → List ℕ → List ℕ → ℕ → List ℕ → ℕ → List Step
gap_steps_in t order owns taken aside g = gap_steps (places t) (solved_in t order owns taken) (aside_in t aside g)

-- all steps, whether checks were set aside or not
abbrev pub plan_steps_in : List ℕ → List ℕ → List ℕ → ℕ → List ℕ → ℕ → List Step
plan_steps_in t order owns taken aside g = plan_steps (places t) (solved_in t order owns taken) (aside_in t aside g)

-- how many of them are clear steps: one for each solved check in each pass, each scratch slot and each fitted place
abbrev pub clear_count : ℕ → ℕ → ℕ
clear_count taken zero = taken
clear_count taken (suc g) = 2 * taken + 2 * suc g

-- ---- the information places: those that are neither owned nor fitted, ascending
abbrev pub free_places : ℕ → List ℕ → List ℕ
free_places n used = minus (rev (below n)) used

abbrev pub info_places : ℕ → List ℕ → ℕ → List ℕ → ℕ → List ℕ
info_places n owns taken fitted g = free_places n (take taken owns ++ take g fitted)

-- ---- what code may read
-- what the earlier phases leave of an accepted table: the checks chosen, the fitted places and the rows of the inverse
pub record Phases (t starts order owns : List ℕ) (taken : ℕ) (aside : List ℕ) (g : ℕ) (fitted rows : List ℕ) : Type 0 where
  pub located : Located t (number t) (places t) starts
  pub chosen : Chosen t order owns aside taken g
  pub few : g ≤ most_aside
  pub fits : Fitted (places t) (solved_in t order owns taken) (aside_in t aside g) g fitted rows

-- ---- the whole
-- the plan's numbers are written and the rest is kept; their count, and the number of add steps
pub record Composed (t before after : List ℕ) (count adds : ℕ) : Type 0 where
  pub list : after ≡ with_numbers t before
  pub numbers : count ≡ length (numbers_of t)
  pub additions : adds ≡ add_steps (plan_of t).steps
