-- What code writes into the plan's buffer for one check, for a pass over the solved checks, for the checks set aside and for the
-- fitted places, and what it reads for it.
use Rattle.std.specs.Prelude.{List, [], ◌∷◌, ◌++◌, map, ℕ, zero, suc, ◌+◌, ◌<◌, ◌≤◌, eqb, length, get_or, set, take}
use Rattle.lists.specs.Lists.{rev, filter, minus, Wrote, from}
use Rattle.table.specs.Accepted.{Located}
use Rattle.table.specs.Checks.{check}
use Rattle.table.specs.Table.{most_places, places, number}
use Rattle.plan.specs.declared.Step.{Step}
use Rattle.plan.specs.Step.{pack}
use Rattle.rule.specs.Buffers.{solved, mask_bits}
use Rattle.rule.specs.Rule.{Solved, clear_and_add, solving_steps, scratch_steps, slots_named}

-- ---- steps in a longer buffer
-- l has room for some steps from at on
abbrev pub Room : List ℕ → ℕ → List Step → Type 0
Room l at xs = at + length xs ≤ length l

-- e is l with the numbers of some steps from at on, and r the next place
abbrev pub WroteSteps : List ℕ → ℕ → List Step → List ℕ → ℕ → Type 0
WroteSteps l at xs e r = Wrote l at (map pack xs) e r

-- ---- marks, a byte a place
-- the places marked by 1
unfoldable pub marked : List ℕ → List ℕ
marked marks = filter (λ p. eqb (get_or marks p 0) 1) (from 0 (length marks))

-- each of the places ps is marked
unfoldable pub marking : List ℕ → List ℕ → List ℕ
marking marks [] = marks
marking marks (p ∷ ps) = marking (set marks p 1) ps

-- ---- what the buffers hold
-- the solved checks in the order of taking
abbrev pub solved_in : List ℕ → List ℕ → List ℕ → ℕ → List Solved
solved_in t order owns taken = solved (check t (number t)) order owns taken

-- the checks set aside, in the order of setting aside
abbrev pub aside_in : List ℕ → List ℕ → ℕ → List (List ℕ)
aside_in t aside g = map (check t (number t)) (take g aside)

-- ---- the steps, from the buffers; the places that skip marks are left out
-- the slot to, from the places c
abbrev pub sum_steps : List ℕ → ℕ → List ℕ → List Step
sum_steps c to skip = clear_and_add to (minus c (to ∷ marked skip))

-- from the places of check j
abbrev pub check_steps : List ℕ → ℕ → ℕ → List ℕ → List Step
check_steps t j to skip = sum_steps (check t (number t) j) to skip

-- the solved checks, the last taken first
abbrev pub solve_steps : List ℕ → List ℕ → List ℕ → ℕ → List ℕ → List Step
solve_steps t order owns taken skip = solving_steps (marked skip) (rev (solved_in t order owns taken))

-- with no place left out
abbrev pub whole_steps : List ℕ → List ℕ → List ℕ → ℕ → List Step
whole_steps t order owns taken = solving_steps [] (rev (solved_in t order owns taken))

-- the checks set aside, into the scratch slots
abbrev pub aside_steps : List ℕ → List ℕ → ℕ → List ℕ → List Step
aside_steps t aside g skip = scratch_steps (places t) (marked skip) (aside_in t aside g)

-- a fitted place, from the scratch slots that its row of the inverse names
abbrev pub fit_steps : ℕ → ℕ → ℕ → ℕ → List Step
fit_steps n g to row = clear_and_add to (slots_named n (mask_bits g row))

-- c fitted places from number j on
unfoldable pub fitting_rows : ℕ → ℕ → List ℕ → List ℕ → ℕ → ℕ → List Step
fitting_rows n g fitted rows j zero = []
fitting_rows n g fitted rows j (suc c) = fit_steps n g (get_or fitted j 0) (get_or rows j 0) ++ fitting_rows n g fitted rows (suc j) c

-- ---- what code may read
-- an accepted table, where its checks start, and a mark for each place
pub record Readable (t starts marks : List ℕ) : Type 0 where
  pub located : Located t (number t) (places t) starts
  pub all : most_places ≤ length marks

-- the numbers of some checks
pub record Numbers (t order : List ℕ) (k : ℕ) : Type 0 where
  pub room : k ≤ length order
  pub each : (i : ℕ) → i < k → get_or order i 0 < number t

-- some places below n
pub record Below (n : ℕ) (ps : List ℕ) (k : ℕ) : Type 0 where
  pub room : k ≤ length ps
  pub each : (i : ℕ) → i < k → get_or ps i 0 < n
