-- The causes of the planner, in their order, and what each leaves.
use Rattle.std.specs.Prelude.{◌≡◌, refl, true, false, List, ℕ, zero, suc, ◌<◌, ◌≤◌, eqb, length, replicate}
use Rattle.std.proofs.Common.{sym, ap, ◌∙◌, arith, ne_eqb, lt-ltb, le-ltb}
use Rattle.table.specs.Table.{refusal}
use Rattle.table.specs.TableLaws.{refusal-small}
use Rattle.plan.specs.Layout.{most_aside, least_plan}
use Rattle.rule.specs.Buffers.{peeling}
use Rattle.rule.specs.PlanOf.{plan_of, with_numbers, plan_of_by}
use Rattle.rule.specs.Rule.{set_aside_of}
use Rattle.planning.specs.Planning.{work_words, refused_by, planning_answer_at, planning_refusal, planning_answer, planning_plan_after, planning_work_after, PlanningAnswer}
use Rattle.planning.specs.PlanningLaws.{table-refused, plan-short, work-wrong, gap-decides}

-- the call as it answers r, and leaves the plan and the work
pub record Outcome (t P W : List ℕ) (r : PlanningAnswer) (plan work : List ℕ) : Type 0 where
  pub answer : r ≡ planning_answer t P W
  pub plan-is : plan ≡ planning_plan_after t P W
  pub work-is : work ≡ planning_work_after t P W

module _ (t P W : List ℕ) where
  stays : (r : ℕ) → planning_refusal t P W ≡ r → 0 < r → r < 6 → Outcome t P W (refused_by r) P W
  stays zero e a b = absurd (omega arith)
  stays (suc r) e a b =
      let z : eqb (planning_refusal t P W) 0 ≡ false = ap (λ (k : ℕ). eqb k 0) e ∙ ne_eqb (suc r) 0 (λ (q : suc r ≡ 0). omega arith) in
      let s : eqb (planning_refusal t P W) 6 ≡ false = ap (λ (k : ℕ). eqb k 6) e ∙ ne_eqb (suc r) 6 (λ (q : suc r ≡ 6). omega arith) in
      record { answer = rw e; plan-is = rw (z, planning_plan_after); work-is = rw (z, planning_work_after, s) }

  pub by-table : (r : ℕ) → r ≡ refusal t → (r ≡ 0 → ⊥) → Outcome t P W (refused_by r) P W
  by-table r e h =
      let l = refusal-small t in
      stays r (table-refused t (length P) (length W) (λ (q : refusal t ≡ 0). h (e ∙ q)) ∙ sym e) (pos r h) (omega arith)
    where
      pos : (x : ℕ) → (x ≡ 0 → ⊥) → 0 < x
      pos zero z = absurd (z refl)
      pos (suc x) z = omega arith

  pub short-plan : refusal t ≡ 0 → length P < least_plan → Outcome t P W (refused_by 5) P W
  short-plan a b = stays 5 (plan-short t (length P) (length W) a b) (omega arith) (omega arith)

  pub wrong-work : refusal t ≡ 0 → least_plan ≤ length P → (length W ≡ work_words → ⊥) → Outcome t P W (refused_by 5) P W
  wrong-work a b c = stays 5 (work-wrong t (length P) (length W) a b c) (omega arith) (omega arith)

  pub many-aside : refusal t ≡ 0 → least_plan ≤ length P → length W ≡ work_words → most_aside < (plan_of t).g → Outcome t P W (refused_by 6) P (replicate work_words 0)
  many-aside a b c d =
      let e = gap-decides t (length P) (length W) true a b c (lt-ltb most_aside (plan_of t).g d) in
      let z : eqb (planning_refusal t P W) 0 ≡ false = ap (λ (k : ℕ). eqb k 0) e in
      let s : eqb (planning_refusal t P W) 6 ≡ true = ap (λ (k : ℕ). eqb k 6) e in
      record { answer = rw e; plan-is = rw (z, planning_plan_after); work-is = rw (z, planning_work_after, s) }

  pub served : refusal t ≡ 0 → least_plan ≤ length P → length W ≡ work_words → (plan_of t).g ≤ most_aside
      → Outcome t P W (planning_answer_at 0 t) (with_numbers t P) (replicate work_words 0)
  served a b c d =
      let e = gap-decides t (length P) (length W) false a b c (le-ltb most_aside (plan_of t).g d) in
      record { answer = rw e; plan-is = rw (e, planning_plan_after); work-is = rw (e, planning_work_after) }

pub gap_is : (t : List ℕ) → (plan_of t).g ≡ length (set_aside_of (peeling t))
unfolding plan_of_by
gap_is t = refl

pub outcome-as : (t P W : List ℕ) {r s : PlanningAnswer} {p q v w : List ℕ} → Outcome t P W r p v → s ≡ r → q ≡ p → w ≡ v
    → (s ≡ planning_answer t P W) × ((q ≡ planning_plan_after t P W) × (w ≡ planning_work_after t P W))
outcome-as t P W o a b c = (a ∙ o.answer, (b ∙ o.plan-is, c ∙ o.work-is))

-- the same, clause by clause
pub outcome-of : (t P W : List ℕ) {r s : PlanningAnswer} {p v : List ℕ} → Outcome t P W r p v → s ≡ r
    → (s ≡ planning_answer t P W) × ((p ≡ planning_plan_after t P W) × (v ≡ planning_work_after t P W))
outcome-of t P W o a = (a ∙ o.answer, (o.plan-is, o.work-is))
