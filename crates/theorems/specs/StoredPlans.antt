-- Plans stored under the old rule (document 02, C-18: "plans stored under the old rule, in C-16's layout, still run as lists of steps"). That every
-- well-formed plan runs, whoever made it, is the encoder's contract; here is that these are well-formed, and that their block is the one block.
-- Beyond the limits of C-20 "stored plans .. no longer run".
use Rattle.std.specs.Prelude.{◌≡◌, Bool, true, false, cond, List, ℕ, ◌<◌, ◌≤◌, length}
use Rattle.std.proofs.Common.{sym, ap, ◌∙◌, arith}
use Rattle.lists.specs.Tests.{by_bool}
use Rattle.table.specs.Table.{refusal}
use Rattle.plan.specs.Step.{add_steps}
use Rattle.plan.specs.Layout.{most_aside, most_steps, plan_refusal, plan_gap, step_count, info_in, steps_of}
use Rattle.plan.specs.LayoutLaws.{beyond-aside, beyond-steps}
use Rattle.rule.specs.Choices.{Chooses, by_weight}
use Rattle.rule.specs.Rule.{Plan, heaviest}
use Rattle.planning.specs.Planning.{plan_of_by, numbers_by}
use Rattle.encoder.specs.Encoding.{wrong_size, encode_refusal_at, refused_by, encode_answer, encode_block_after, encode_scratch_after}
use Rattle.encoder.proofs.EncodingLaws.{refused-size, refused-plan, refused-answer, refused-keeps-block, refused-keeps-scratch}
use Rattle.theorems.specs.Demands.{ToTheLastStep, TheOneBlock, the-one-block, last-counted}
use Rattle.theorems.specs.OwnPlan.{own-accepted, own-info, own-steps}

-- what the stored numbers p of the plan P of a table t come to: 9 never refuses them, information places and steps are the plan's, and to the last step, at any size, they
-- give the one block that carries the information at the plan's information places, with every add step counted
pub record Runs (t p : List ℕ) (P : Plan) : Type 0 where
  pub accepted : plan_refusal p ≡ 0
  pub information : info_in p ≡ P.info
  pub steps : steps_of p ≡ P.steps
  pub block : (s : ℕ) (information block_buffer scratch_buffer : List ℕ) (limit : ℕ) → ToTheLastStep t p s information block_buffer scratch_buffer limit
      → TheOneBlock t p s information block_buffer scratch_buffer limit
  pub counted : (s : ℕ) (information block_buffer scratch_buffer : List ℕ) (limit : ℕ) → ToTheLastStep t p s information block_buffer scratch_buffer limit
      → (encode_answer p s information block_buffer scratch_buffer limit).additions ≡ add_steps P.steps

-- whatever the choice by which a plan was made, of every accepted table of which it sets no more checks aside than a plan may have
pub any-choice-runs : (ch : Chooses) (t : List ℕ) → refusal t ≡ 0 → (plan_of_by ch.choice t).g ≤ most_aside → Runs t (numbers_by ch.choice t) (plan_of_by ch.choice t)
any-choice-runs ch t ok few = record {
  accepted = own-accepted ch t ok few;
  information = own-info ch t ok few;
  steps = own-steps ch t ok few;
  block = the-one-block ch t ok few;
  counted = λ s i b c limit lent. last-counted (numbers_by ch.choice t) s i b c limit (the-one-block ch t ok few s i b c limit lent).not-refused lent.all-steps
      ∙ ap add_steps (own-steps ch t ok few);
}

-- the plans that the planner made before C-18, by "the live check of greatest weight"
pub stored-plan-runs : (t : List ℕ) → refusal t ≡ 0 → (plan_of_by heaviest t).g ≤ most_aside → Runs t (numbers_by heaviest t) (plan_of_by heaviest t)
stored-plan-runs t ok few = any-choice-runs by_weight t ok few

-- ---- beyond the limits
-- what a plan p that is beyond a limit comes to: 9 at every size from 1 to 1,024, whatever is lent, and nothing is written
pub record NoLongerRuns (p : List ℕ) : Type 0 where
  pub refused : plan_refusal p ≡ 9
  pub answered : (s : ℕ) (information block_buffer scratch_buffer : List ℕ) (limit : ℕ)
      → encode_answer p s information block_buffer scratch_buffer limit ≡ refused_by (cond (wrong_size s) 2 9)
  pub block : (s : ℕ) (information block_buffer scratch_buffer : List ℕ) (limit : ℕ) → encode_block_after p s information block_buffer scratch_buffer limit ≡ block_buffer
  pub scratch : (s : ℕ) (information block_buffer scratch_buffer : List ℕ) (limit : ℕ) → encode_scratch_after p s information block_buffer scratch_buffer limit ≡ scratch_buffer

module _ (p : List ℕ) (nine : plan_refusal p ≡ 9) where
  cause : (s i b c : ℕ) → encode_refusal_at p s i b c ≡ cond (wrong_size s) 2 9
  cause s i b c = by_bool (wrong_size s)
      (λ z. refused-size p s i b c z ∙ rw z)
      (λ z. refused-plan p s i b c z (λ e. omega arith) ∙ nine ∙ rw z)

  some-cause : (s i b c : ℕ) → encode_refusal_at p s i b c ≡ 0 → ⊥
  some-cause s i b c e = not-zero (wrong_size s) (sym (cause s i b c) ∙ e)
    where
      not-zero : (z : Bool) → ◌≡◌ {A = ℕ} (cond z 2 9) 0 → ⊥
      not-zero true h = omega arith
      not-zero false h = omega arith

  refused-whole : NoLongerRuns p
  refused-whole = record {
    refused = nine;
    answered = λ s i b c limit. refused-answer p s i b c limit (some-cause s (length i) (length b) (length c)) ∙ ap refused_by (cause s (length i) (length b) (length c));
    block = λ s i b c limit. refused-keeps-block p s i b c limit (some-cause s (length i) (length b) (length c));
    scratch = λ s i b c limit. refused-keeps-scratch p s i b c limit (some-cause s (length i) (length b) (length c));
  }

-- whoever made the plan
pub aside-no-longer : (p : List ℕ) → most_aside < plan_gap p → NoLongerRuns p
aside-no-longer p h = refused-whole p (beyond-aside p h)

pub steps-no-longer : (p : List ℕ) → most_steps < step_count p → NoLongerRuns p
steps-no-longer p h = refused-whole p (beyond-steps p h)

-- whatever the choice by which it was made, and of whatever table
pub any-choice-no-longer : (ch : Chooses) (t : List ℕ) → most_aside < (plan_of_by ch.choice t).g → NoLongerRuns (numbers_by ch.choice t)
unfolding plan_of_by numbers_by
any-choice-no-longer ch t many = aside-no-longer (numbers_by ch.choice t) many

-- the plans that the planner made before C-18; of an accepted table those with no more set aside run (`stored-plan-runs`)
pub stored-plan-no-longer : (t : List ℕ) → most_aside < (plan_of_by heaviest t).g → NoLongerRuns (numbers_by heaviest t)
stored-plan-no-longer t many = any-choice-no-longer by_weight t many
