-- What a program knows of the planner's own plan.
use Rattle.std.specs.Prelude.{◌≡◌, refl, List, ◌++◌, ℕ, zero, suc, ◌≤◌, length, take, drop, replicate}
use Rattle.std.proofs.Common.{sym, ◌∙◌, arith, length-append, take_at}
use Rattle.std.proofs.Math.Path.{ap}
use Rattle.std.proofs.lemmas.List.{length-replicate}
use Rattle.std.specs.declared.result.Result.{Result}
use Rattle.std.specs.declared.result.Result.TheVariants.{Ok, Err}
use Rattle.refusals.specs.declared.Refusal.{Refusal}
use Rattle.refusals.specs.Refusals.{refusal_of}
use Rattle.table.specs.Table.{refusal}
use Rattle.plan.specs.Step.{add_steps}
use Rattle.plan.specs.Layout.{plan_refusal, most_aside}
use Rattle.planning.specs.declared.Planned.{Planned}
use Rattle.planning.specs.Planning.{plan_of, numbers_of, planning_answer_of, planning_answer_at, planning_refusal, planning_answer, planning_plan_after, planning_refusal_at, work_words}
use Rattle.planning.specs.PlanningLaws.{accepted-planning}
use Rattle.theorems.specs.OwnPlan.{by_rule, own-accepted}

-- the work that is lent to the planner
unfoldable pub lent_work : List ℕ
lent_work = replicate work_words 0

-- the plan stands at the start of the buffer and is well-formed, and the answer speaks of it
pub record Own (t : List ℕ) (r : Planned) (buf : List ℕ) : Type 0 where
  pub accepted : refusal t ≡ 0
  pub few : (plan_of t).g ≤ most_aside
  pub within : r.length ≤ length buf
  pub counts : r.length ≡ length (take r.length buf)
  pub numbers : take r.length buf ≡ numbers_of t
  pub formed : plan_refusal (take r.length buf) ≡ 0
  pub ones : r.ones ≡ (plan_of t).W
  pub additions : r.additions ≡ add_steps (plan_of t).steps

-- the refusal that is answered
answer-refusal : (p : ℕ) (t : List ℕ) → (planning_answer_at p t).refusal ≡ p
answer-refusal zero t = refl
answer-refusal (suc p) t = refl

-- the number of what is answered
refusal_is : (r : Result Planned Refusal) → refusal_of r ≡ (planning_answer_of r).refusal
refusal_is (Ok p) = refl
refusal_is (Err c) = refl

module _ (t buf : List ℕ) (r : Result Planned Refusal) (a : planning_answer_of r ≡ planning_answer t buf lent_work) where
  pub own-refusal : refusal_of r ≡ planning_refusal_at t (length buf) work_words
  unfolding lent_work
  own-refusal = refusal_is r ∙ ap (λ x. x.refusal) a ∙ answer-refusal (planning_refusal t buf lent_work) t ∙ ap (planning_refusal_at t (length buf)) (length-replicate {A = ℕ} work_words 0)

module _ (t buf : List ℕ) (r : Planned) (a : planning_answer_of (Ok r) ≡ planning_answer t buf lent_work) where
  -- where the table is accepted
  pub own-plan : (buf' : List ℕ) → buf' ≡ planning_plan_after t buf lent_work → Own t r buf'
  own-plan buf' b =
      let e : planning_refusal t buf lent_work ≡ 0 = sym (answer-refusal (planning_refusal t buf lent_work) t) ∙ sym (ap (λ x. x.refusal) a) in
      let ok = accepted-planning t (length buf) (length lent_work) e in
      let l : length (numbers_of t) ≡ r.length = sym (rw e at (ap (λ x. x.length) a)) in
      let w : buf' ≡ numbers_of t ++ drop (length (numbers_of t)) buf = rw (e, planning_plan_after) at b in
      let k : take r.length buf' ≡ numbers_of t = ap (take r.length) w ∙ take_at (numbers_of t) (drop (length (numbers_of t)) buf) r.length l in
      record {
        accepted = ok.0;
        few = ok.1;
        within = omega (arith, simp length-append at (ap length w));
        counts = sym (ap length k ∙ l);
        numbers = k;
        formed = ap plan_refusal k ∙ own-accepted by_rule t ok.0 ok.1;
        ones = rw e at (ap (λ x. x.ones) a);
        additions = rw e at (ap (λ x. x.additions) a);
      }
