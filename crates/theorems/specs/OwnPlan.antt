-- The plan of a table, whatever the choice of checks to set aside: it is well-formed, and read back it is the plan. By the rule's choice it is the
-- planner's own plan, by document 01's a plan that was stored before C-18.
use Rattle.std.specs.Prelude.{◌≡◌, Bool, true, false, ◌||◌, ◌&&◌, List, ℕ, ◌+◌, ◌-◌, ◌<◌, ◌≤◌, length}
use Rattle.std.proofs.Math.Path.{refl, ap}
use Rattle.std.proofs.Common.{ap₂, ◌∙◌, lt-ltb, le-ltb, le-leb, eq-eqb}
use Rattle.std.proofs.Math.Bool.{cond, not}
use native.Mathlib.Omega.{arith}
use Rattle.lists.specs.Lists.{all_pass, All, All.nil, All.cons, Up, Up.unone, Up.uthen}
use Rattle.table.specs.Table.{most_places, most_checks, places, checks, refusal, rising}
use Rattle.table.specs.TableLaws.{Good, accepted, within}
use Rattle.plan.specs.Step.{unpack, unpack_all}
use Rattle.plan.specs.LayoutLaws.{Sound}
use Rattle.plan.specs.ReadBack.{numbers-length, info-back, count-back, steps_back, packed-good, packed-back}
use Rattle.plan.specs.Layout.{most_aside, most_steps, least_numbers, info_count, info_in, step_count, steps_at, steps_of, bad_counts, good_step, well_formed, plan_refusal, plan_kept}
use Rattle.rule.specs.Choices.{Chooses}
pub use Rattle.rule.specs.Choices.{by_rule}
use Rattle.rule.specs.Rule.{Plan}
use Rattle.rule.proofs.WellFormed.{well-formed, info-low}
use Rattle.rule.proofs.Info.{info-number, kept-few}
use Rattle.rule.proofs.WithinLimits.{info-up, kept-length, aside-few, steps-limit}
use Rattle.planning.specs.Planning.{plan_of_by, numbers_by}

-- ---- tests
or_no : {a b : Bool} → a ≡ false → b ≡ false → (a || b) ≡ false
or_no e f = rw (e, f)

and_yes : {a b : Bool} → a ≡ true → b ≡ true → (a && b) ≡ true
and_yes e f = rw (e, f)

-- ---- the parts of a well-formed plan
pub up-rising : (n : ℕ) {b : ℕ} {l : List ℕ} → Up b l → All (λ p. p < n) l → rising n b l ≡ true
up-rising n unone nil = refl
up-rising n {b} (uthen {x = x} h u) (cons k a) = and_yes (and_yes (le-leb b x h) (lt-ltb x n k)) (up-rising n u a)

-- ---- for every choice and every accepted table
module _ (ch : Chooses) (t : List ℕ) (ok : refusal t ≡ 0) (few : (plan_of_by ch.choice t).g ≤ most_aside) where
  good : Good t
  unfolding plan_of_by numbers_by
  good = accepted t ok

  abbrev n : ℕ
  n = places t

  abbrev P : Plan
  P = plan_of_by ch.choice t

  -- its numbers
  abbrev w : List ℕ
  w = numbers_by ch.choice t

  sounds : All (Sound (n + P.g) P.info) P.steps
  unfolding plan_of_by numbers_by
  sounds = well-formed ch n (checks t) good.distinct good.low

  fits : n + P.g ≤ 4096
  unfolding plan_of_by numbers_by
  fits = let a = good.few-places in omega arith

  -- reading back
  pub own-info : info_in w ≡ P.info
  unfolding plan_of_by numbers_by
  own-info = info-back n P.g P.M P.info P.steps

  pub own-count : step_count w ≡ length P.steps
  unfolding plan_of_by numbers_by
  own-count = count-back n P.g P.M P.info P.steps

  pub own-length : length w ≡ least_numbers + length P.info + length P.steps
  unfolding plan_of_by numbers_by
  own-length = numbers-length n P.g P.M P.info P.steps

  pub own-steps : steps_of w ≡ P.steps
  unfolding plan_of_by numbers_by
  own-steps = ap unpack_all (steps_back n P.g P.M P.info P.steps) ∙ packed-back (n + P.g) P.info fits sounds

  pub own-places : info_count w ≡ n - P.M
  unfolding plan_of_by numbers_by
  own-places = info-number ch n (checks t) good.distinct good.low

  pub own-kept : plan_kept w ≡ P.M
  unfolding plan_of_by numbers_by
  own-kept = refl

  counts : bad_counts w ≡ false
  unfolding plan_of_by numbers_by
  counts =
      let a = own-length in let b = own-count in let c = own-places in
      let g1 = good.few-places in let g2 = good.few-checks in
      let k = kept-few ch n (checks t) good.distinct good.low in
      let l = kept-length (checks t) in
      let f = aside-few ch n (checks t) good.distinct good.low in
      let m = steps-limit ch n (checks t) good.distinct good.low good.few_ones few in
      or_no (or_no (le-ltb (length w) least_numbers (omega arith)) refl)
      (or_no (or_no (within most_places n good.some-places good.few-places)
      (or_no (le-ltb most_aside P.g few)
      (or_no (le-ltb P.M P.g f)
      (or_no (le-ltb n P.M k)
      (le-ltb most_checks P.M (omega arith))))))
      (or_no (ap not (eq-eqb (length P.info) (n - P.M) c))
      (or_no (le-ltb (length w) (steps_at w) (omega arith))
      (or_no (le-ltb most_steps (step_count w) (omega arith))
      (ap not (eq-eqb (length w) (steps_at w + step_count w) (omega arith)))))))

  -- so that, by the rule's choice, "the planner's own plan is well-formed"
  pub own-well-formed : well_formed w ≡ true
  unfolding plan_of_by numbers_by
  own-well-formed = and_yes (ap not counts)
      (and_yes (ap (rising n 0) own-info ∙ up-rising n (info-up ch n (checks t)) (info-low ch n (checks t) good.distinct good.low))
      (ap₂ (λ I l. all_pass (λ x. good_step (n + P.g) I (unpack x)) l) own-info (steps_back n P.g P.M P.info P.steps) ∙ packed-good (n + P.g) P.info fits sounds))

  -- so that the encoder never refuses it with 9
  pub own-accepted : plan_refusal w ≡ 0
  unfolding plan_of_by numbers_by
  own-accepted = ap (λ b. cond (not b) 9 0) own-well-formed
