-- Tables that differ in the packet size alone (document 02, C-16: "A plan's list of steps doesn't depend on the size"): one plan, the same
-- numbers, and the same planning.
use Rattle.std.specs.Prelude.{◌≡◌, refl, Bool, true, false, ℕ, zero, suc, eqb, ltb, length, drop, replicate}
use Rattle.std.proofs.Common.{ap, ◌∙◌}
use Rattle.std.proofs.Math.Path.{ap₂}
use mathlib.Core.List.{List, [], ◌∷◌, ◌++◌}
use Rattle.table.specs.AnySize.{places-at, checks-at, causes-at}
use Rattle.table.specs.FirstCause.{first_cause}
use Rattle.table.specs.Table.{most_bytes, size, at_size, outside}
use Rattle.plan.specs.Layout.{most_aside, plan_numbers}
use Rattle.plan.specs.Step.{add_steps}
use Rattle.rule.specs.Rule.{plan, Plan}
use Rattle.planning.specs.Planning.{work_words, plan_of, numbers_of, wrong_lengths, planning_refusal_at, PlanningAnswer, planning_answer_at, planning_refusal, planning_answer, planning_plan_after, planning_work_after, numbers_by, plan_of_by}

-- planning by the tables t and u comes to the same: answer, plan buffer and work
pub record SamePlanning (t u plan_buffer work_buffer : List ℕ) : Type 0 where
  pub answer : planning_answer u plan_buffer work_buffer ≡ planning_answer t plan_buffer work_buffer
  pub plan : planning_plan_after u plan_buffer work_buffer ≡ planning_plan_after t plan_buffer work_buffer
  pub work : planning_work_after u plan_buffer work_buffer ≡ planning_work_after t plan_buffer work_buffer

-- what an accepted planning answers, by its numbers and its plan
abbrev answer_by : List ℕ → Plan → PlanningAnswer
answer_by l p = record { refusal = 0; length = length l; kept = p.M; ones = p.W; gap = p.g; additions = add_steps p.steps }

module _ (s : ℕ) (t : List ℕ) where
  -- for every table, accepted or not
  pub plan-at : plan_of (at_size s t) ≡ plan_of t
  unfolding plan_of_by
  plan-at = ap₂ plan (places-at s t) (checks-at s t)

  pub numbers-at : numbers_of (at_size s t) ≡ numbers_of t
  unfolding numbers_by
  numbers-at = ap₂ (λ (n : ℕ) (p : Plan). plan_numbers n p.g p.M p.info p.steps) (places-at s t) plan-at

  answer_at : (r : ℕ) → planning_answer_at r (at_size s t) ≡ planning_answer_at r t
  answer_at zero = ap₂ answer_by numbers-at plan-at
  answer_at (suc r) = refl

  module _ (plan_buffer work : List ℕ) (own : outside most_bytes (size t) ≡ false) (given : outside most_bytes s ≡ false) where
    refusal-same : planning_refusal (at_size s t) plan_buffer work ≡ planning_refusal t plan_buffer work
    unfolding planning_refusal_at
    refusal-same = ap₂ (λ (cs : List (Bool × ℕ)) (p : Plan). first_cause (cs ++ ((wrong_lengths (length plan_buffer) (length work), 5) ∷ (ltb most_aside p.g, 6) ∷ [])))
        (causes-at s t own given) plan-at

    -- for every table and buffers, refused ones too
    pub planned-alike : SamePlanning t (at_size s t) plan_buffer work
    planned-alike = record {
      answer = answer_at (planning_refusal (at_size s t) plan_buffer work) ∙ ap (λ (r : ℕ). planning_answer_at r t) refusal-same;
      plan = ap₂ (λ (r : ℕ) (l : List ℕ). elim (eqb r 0) [ true ↦ l ++ drop (length l) plan_buffer | false ↦ plan_buffer ]) refusal-same numbers-at;
      work = ap (λ (r : ℕ). elim (eqb r 0) [ true ↦ replicate work_words 0 | false ↦ elim (eqb r 6) [ true ↦ replicate work_words 0 | false ↦ work ] ]) refusal-same;
    }
