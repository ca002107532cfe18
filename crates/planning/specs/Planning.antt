-- The planner's call (document 01, "The plan" and "Buffers"): table t, plan and work buffers of any length and content.
use Rattle.std.specs.Prelude.{Bool, true, false, ◌||◌, List, [], ◌∷◌, ◌++◌, ℕ, zero, suc, eqb, ltb, length, replicate}
use Rattle.table.specs.FirstCause.{first_cause, wrong_length}
use Rattle.table.specs.Table.{table_causes}
pub use Rattle.table.specs.Table.{work_words}
use Rattle.plan.specs.Step.{add_steps}
use Rattle.plan.specs.Layout.{most_aside}
pub use Rattle.plan.specs.Layout.{least_plan}
use Rattle.rule.specs.PlanOf.{with_numbers}
unfoldable pub use Rattle.rule.specs.PlanOf.{plan_of_by, numbers_by}
pub use Rattle.rule.specs.PlanOf.{plan_of, numbers_of}
use Rattle.std.specs.declared.result.Result.{Result}
use Rattle.std.specs.declared.result.Result.TheVariants.{Ok, Err}
use Rattle.refusals.specs.declared.Refusal.{Refusal}
use Rattle.refusals.specs.Refusals.{number_of}
use Rattle.planning.specs.declared.Planned.{Planned}

-- 5: a plan buffer too short, or work of wrong length
abbrev pub wrong_lengths : ℕ → ℕ → Bool
wrong_lengths plan_length work_length = ltb plan_length least_plan || wrong_length work_length work_words

-- 6: more checks set aside than a plan may have
abbrev pub too_many_aside : List ℕ → Bool
too_many_aside t = ltb most_aside (plan_of t).g

-- the causes in their order, 1 to 6
abbrev pub planning_causes : List ℕ → ℕ → ℕ → List (Bool × ℕ)
planning_causes t plan_length work_length = table_causes t ++ ((wrong_lengths plan_length work_length, 5) ∷ (too_many_aside t, 6) ∷ [])

unfoldable pub planning_refusal_at : List ℕ → ℕ → ℕ → ℕ
planning_refusal_at t plan_length work_length = first_cause (planning_causes t plan_length work_length)

-- "The planner answers with the plan's length, M, W, g and the number of add steps"; counts 0 on refusal
pub record PlanningAnswer : Type 0 where
  pub refusal : ℕ
  pub length : ℕ
  pub kept : ℕ
  pub ones : ℕ
  pub gap : ℕ
  pub additions : ℕ

abbrev pub refused_by : ℕ → PlanningAnswer
refused_by r = record { refusal = r; length = 0; kept = 0; ones = 0; gap = 0; additions = 0 }

abbrev pub planning_answer_at : ℕ → List ℕ → PlanningAnswer
planning_answer_at zero t = record {
  refusal = 0;
  length = length (numbers_of t);
  kept = (plan_of t).M;
  ones = (plan_of t).W;
  gap = (plan_of t).g;
  additions = add_steps (plan_of t).steps;
}
planning_answer_at (suc r) t = refused_by (suc r)

-- what the code answers
abbrev pub planning_answer_of : Result Planned Refusal → PlanningAnswer
planning_answer_of (Err r) = refused_by (number_of r)
planning_answer_of (Ok p) = record {
  refusal = 0;
  length = p.length;
  kept = p.kept;
  ones = p.ones;
  gap = p.gap;
  additions = p.additions;
}

module _ (t plan_buffer work : List ℕ) where
  abbrev pub planning_refusal : ℕ
  planning_refusal = planning_refusal_at t (length plan_buffer) (length work)

  abbrev pub planning_answer : PlanningAnswer
  planning_answer = planning_answer_at planning_refusal t

  -- the plan's numbers are written and the rest is kept; on refusal as it was
  abbrev pub planning_plan_after : List ℕ
  planning_plan_after = elim (eqb planning_refusal 0) [ true ↦ with_numbers t plan_buffer | false ↦ plan_buffer ]

  -- "all zero after planning and after refusal 6"; else as it was
  abbrev pub planning_work_after : List ℕ
  planning_work_after = elim (eqb planning_refusal 0) [
    | true ↦ replicate work_words 0
    | false ↦
        elim (eqb planning_refusal 6) [ true ↦ replicate work_words 0 | false ↦ work ]
  ]
