-- The causes of the planner in their order, and what an accepted planning tells.
use Rattle.std.specs.Prelude.{◌≡◌, Bool, false, cond, List, [], ◌∷◌, ◌⊎◌, ℕ, ◌≤◌, ◌<◌}
use Rattle.std.proofs.Math.Path.{refl}
use Rattle.std.proofs.Common.{ap, ◌∙◌, inl, inr}
use borrow.Author.Tests.{eq-eqb, ne_eqb, ltb-false, le-ltb, lt-ltb}
use Rattle.lists.specs.Lists.{All.cons}
use Rattle.lists.specs.Tests.{by_bool}
use Rattle.table.specs.FirstCause.{first_cause, NoneHolds}
use Rattle.table.specs.FirstCauseLaws.{none-holds, none-refuses, first-decides, rest-decides}
use Rattle.table.specs.Table.{table_causes, refusal}
use Rattle.plan.specs.Layout.{most_aside}
use Rattle.planning.specs.Planning.{least_plan, work_words, plan_of, wrong_lengths, too_many_aside, planning_refusal_at}

module _ (t : List ℕ) (plan_length work_length : ℕ) where
  -- the causes beyond the table's
  abbrev own : List (Bool × ℕ)
  own = (wrong_lengths plan_length work_length, 5) ∷ (too_many_aside t, 6) ∷ []

  pub table-refused : (refusal t ≡ 0 → ⊥) → planning_refusal_at t plan_length work_length ≡ refusal t
  unfolding planning_refusal_at
  table-refused h = first-decides (table_causes t) own h

  -- once the table is accepted
  at_own : refusal t ≡ 0 → planning_refusal_at t plan_length work_length ≡ first_cause own
  unfolding planning_refusal_at
  at_own ok = rest-decides (none-holds (table_causes t) refl ok) own

  pub plan-short : refusal t ≡ 0 → plan_length < least_plan → planning_refusal_at t plan_length work_length ≡ 5
  plan-short ok h = at_own ok ∙ rw (lt-ltb plan_length least_plan h)

  pub work-wrong : refusal t ≡ 0 → least_plan ≤ plan_length → (work_length ≡ work_words → ⊥) → planning_refusal_at t plan_length work_length ≡ 5
  work-wrong ok h k = at_own ok ∙ rw (le-ltb plan_length least_plan h, ne_eqb work_length work_words k)

  -- what is left then is 6 or nothing
  pub gap-decides : (x : Bool) → refusal t ≡ 0 → least_plan ≤ plan_length → work_length ≡ work_words → too_many_aside t ≡ x → planning_refusal_at t plan_length work_length ≡ cond x 6 0
  gap-decides x ok h k e = at_own ok ∙ rw (le-ltb plan_length least_plan h, eq-eqb work_length work_words k) (ap (λ (y : Bool). cond y 6 0) e)

  -- where not too many are set aside, the lengths alone decide
  pub lengths-decide : refusal t ≡ 0 → too_many_aside t ≡ false → (planning_refusal_at t plan_length work_length ≡ 0) ⊎ (planning_refusal_at t plan_length work_length ≡ 5)
  lengths-decide ok e = by_bool (wrong_lengths plan_length work_length)
      (λ w. inr (at_own ok ∙ rw w))
      (λ w. inl (at_own ok ∙ rw w (ap (λ (y : Bool). cond y 6 0) e)))

  -- an accepted planning
  pub accepted-planning : planning_refusal_at t plan_length work_length ≡ 0 → (refusal t ≡ 0) × ((plan_of t).g ≤ most_aside)
  unfolding planning_refusal_at
  accepted-planning h = let r = none-refuses (table_causes t) refl own h in (r.0, few (none-holds own refl r.1))
    where
      few : NoneHolds own → (plan_of t).g ≤ most_aside
      few (cons w (cons a n)) = ltb-false most_aside (plan_of t).g a
