-- The plan as numbers (document 01, "The plan" and cause 9; document 02, C-16: "The plan's first section becomes 3, then n, g, M"):
-- 3, n, g, M; the count n − M and the information places; the count of steps and the steps.
use Rattle.std.specs.Prelude.{Bool, false, not, ◌||◌, ◌&&◌, List, [], ◌∷◌, ◌++◌, map, ℕ, ◌+◌, ◌-◌, eqb, ltb, length, get_or, take, drop}
use Rattle.std.proofs.Math.Option.{Option, none, some}
use Rattle.lists.specs.Lists.{all_pass, has}
use Rattle.table.specs.FirstCause.{first_cause}
use Rattle.table.specs.Table.{most_places, most_checks, outside, rising}
use Rattle.plan.specs.declared.Step.{Step}
use Rattle.plan.specs.declared.Step.TheVariants.{Clear, Add}
use Rattle.plan.specs.Step.{pack, unpack, unpack_all}

-- ---- the limits of a plan (document 02, C-20: "Refusal 6 starts at 21, refusal 9 refuses a plan with g over 20 or more than 12,708 steps;
-- lent buffer lengths don't change")
-- checks set aside
abbrev pub most_aside : ℕ
most_aside = 20

abbrev pub most_steps : ℕ
most_steps = 12708

-- "the planner's plan at least 15,360 numbers"
abbrev pub least_plan : ℕ
least_plan = 15360

-- ---- writing
-- the first number says how many follow it in the first section
abbrev pub head_count : ℕ
head_count = 3

abbrev pub plan_head : ℕ → ℕ → ℕ → List ℕ
plan_head n g M = head_count ∷ n ∷ g ∷ M ∷ []

abbrev pub info_numbers : List ℕ → List ℕ
info_numbers info = length info ∷ info

abbrev pub step_numbers : List Step → List ℕ
step_numbers steps = length steps ∷ map pack steps

abbrev pub plan_numbers : ℕ → ℕ → ℕ → List ℕ → List Step → List ℕ
plan_numbers n g M info steps = plan_head n g M ++ (info_numbers info ++ step_numbers steps)

-- ---- reading
-- where the count of information places stands, and where they start
abbrev pub info_count_at : ℕ
info_count_at = head_count + 1

abbrev pub info_at : ℕ
info_at = info_count_at + 1

abbrev pub plan_places : List ℕ → ℕ
plan_places w = get_or w 1 0

abbrev pub plan_gap : List ℕ → ℕ
plan_gap w = get_or w 2 0

abbrev pub plan_kept : List ℕ → ℕ
plan_kept w = get_or w 3 0

-- the count of information places
abbrev pub info_count : List ℕ → ℕ
info_count w = get_or w info_count_at 0

abbrev pub info_in : List ℕ → List ℕ
info_in w = take (info_count w) (drop info_at w)

-- the count of steps, right behind the information places
abbrev pub step_count : List ℕ → ℕ
step_count w = get_or w (info_at + info_count w) 0

-- where the steps start
abbrev pub steps_at : List ℕ → ℕ
steps_at w = info_at + 1 + info_count w

abbrev pub steps_in : List ℕ → List ℕ
steps_in w = drop (steps_at w) w

-- a plan of no information places and no steps has this many numbers
abbrev pub least_numbers : ℕ
least_numbers = info_at + 1

-- slots 0 to n − 1 are places, n to n + g − 1 are scratch
abbrev pub slots : List ℕ → ℕ
slots w = plan_places w + plan_gap w

-- the steps of a plan
abbrev pub steps_of : List ℕ → List Step
steps_of w = unpack_all (steps_in w)

-- ---- cause 9
-- too short to have counts, or a first section of another length
abbrev pub bad_head : List ℕ → Bool
bad_head w = ltb (length w) least_numbers || not (eqb (get_or w 0 0) head_count)

-- n "beyond limits", g over its limit "or over M, M over n or 512" (C-16: "9 no longer looks at s")
abbrev pub bad_limits : List ℕ → Bool
bad_limits w = outside most_places (plan_places w) || (ltb most_aside (plan_gap w) || (ltb (plan_kept w) (plan_gap w)
    || (ltb (plan_places w) (plan_kept w) || ltb most_checks (plan_kept w))))

-- "wrong counts or length", more steps than their limit
abbrev pub bad_lengths : List ℕ → Bool
bad_lengths w = not (eqb (info_count w) (plan_places w - plan_kept w)) || (ltb (length w) (steps_at w) || (ltb most_steps (step_count w)
    || not (eqb (length w) (steps_at w + step_count w))))

-- one of the three
abbrev pub bad_counts : List ℕ → Bool
bad_counts w = bad_head w || (bad_limits w || bad_lengths w)

-- "an unknown kind, a slot outside, clear with from above 0, a slot added into itself, or an information place written",
-- for k slots and the information places I
abbrev pub good_step : ℕ → List ℕ → Option Step → Bool
good_step k I none = false
good_step k I (some (Clear to)) = ltb to k && not (has to I)
good_step k I (some (Add to from)) = ltb to k && (ltb from k && (not (eqb to from) && not (has to I)))

-- "places not strictly ascending or not below n", then the steps
abbrev pub well_formed : List ℕ → Bool
well_formed w = not (bad_counts w) && (rising (plan_places w) 0 (info_in w)
    && all_pass (λ x. good_step (slots w) (info_in w) (unpack x)) (steps_in w))

-- 9: the plan isn't well-formed
abbrev pub plan_causes : List ℕ → List (Bool × ℕ)
plan_causes w = (not (well_formed w), 9) ∷ []

abbrev pub plan_refusal : List ℕ → ℕ
plan_refusal w = first_cause (plan_causes w)
