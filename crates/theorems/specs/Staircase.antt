-- What the planner and the encoder do with a table that is made (document 02, C-11): "Every table made is planned with no check set
-- aside and with the source packets at the lowest places, so files go out in natural order."
use Rattle.std.specs.Prelude.{◌≡◌, false, List, ◌⊎◌, ℕ, ◌+◌, ◌-◌, ◌*◌, ◌<◌, ◌≤◌, get_or, take}
use Rattle.std.proofs.Common.{sym, ap, ◌∙◌, arith, le-ltb, take_all}
use Rattle.std.proofs.Math.Path.{subst}
use Rattle.std.proofs.Math.ListN.{length}
use Rattle.lists.specs.ListLaws.{all_map}
use Rattle.lists.specs.Lists.{from}
use Rattle.lists.specs.Numbers.{from_at}
use Rattle.table.specs.PacketCall.{part_at}
use Rattle.table.specs.PacketLaws.{first-packets}
use Rattle.table.specs.Table.{places, checks}
use Rattle.making.specs.Sorted.{rising-low}
use Rattle.staircase.specs.Ascending.{stairs-count}
use Rattle.staircase.specs.Staircase.{staircase_checks, staircase_refusal, staircase_lent}
use Rattle.staircase.specs.StaircaseLaws.{MadeTable, LeftSide, made-accepted, left-side}
use Rattle.staircase.specs.Stairs.{staircase}
use Rattle.plan.specs.Layout.{most_aside, plan_kept, info_in, info_count}
use Rattle.rule.specs.Choices.{by_rule}
use Rattle.rule.specs.Rule.{most_freed, plan}
use Rattle.planning.specs.Planning.{least_plan, work_words, too_many_aside, plan_of, planning_refusal, plan_of_by}
use Rattle.planning.specs.PlanningLaws.{gap-decides, lengths-decide}
use Rattle.encoder.specs.Encoding.{encode_block_after}
use Rattle.theorems.specs.Demands.{handed, plan-written, ToTheLastStep, TheOneBlock, planning-then-encoding}
use Rattle.theorems.specs.OwnPlan.{own-info, own-places, own-kept}
use Rattle.theorems.specs.StairsPlanned.{Natural, staircase-planned}

-- the plan of a table t of k sources and n packets: every check is kept and none set aside, the sources are the information places, in
-- natural order, and the planner refuses with none of 1 to 4 and 6
pub record PlannedInOrder (k n : ℕ) (t : List ℕ) : Type 0 where
  pub kept : (plan_of t).M ≡ n - k
  pub gap : (plan_of t).g ≡ 0
  pub own : (plan_of t).own ≡ from k (n - k)
  pub information : (plan_of t).info ≡ from 0 k
  pub accepted : (plan_buffer work : List ℕ) → least_plan ≤ length plan_buffer → length work ≡ work_words → planning_refusal t plan_buffer work ≡ 0
  pub refused : (plan_buffer work : List ℕ) → (planning_refusal t plan_buffer work ≡ 0) ⊎ (planning_refusal t plan_buffer work ≡ 5)

-- the table t that the call has left in its buffer
module _ (k n ones seed s : ℕ) (buffer : List ℕ) (made : staircase_refusal k n ones seed s buffer ≡ 0) where
  abbrev t : List ℕ
  t = staircase_lent k n ones seed s buffer

  facts : MadeTable k n ones seed s t
  facts = made-accepted k n ones seed s buffer made

  left : LeftSide k n (staircase_checks k n ones seed)
  left = left-side k n ones seed s buffer made

  by_left : checks t ≡ staircase k left.left
  by_left = facts.checks-are ∙ left.stairs

  checks-count : length (checks t) ≡ n - k
  checks-count = ap length by_left ∙ stairs-count k 0 left.left ∙ left.rows

  -- the rule's plan of it
  natural : Natural k (checks t) (plan_of t)
  unfolding plan_of_by
  natural =
      let a = left.above in
      let b = left.rows in
      let z : k + length left.left ≡ places t = omega (arith, facts.places-are) in
      subst (λ x. Natural k x (plan (places t) x)) (sym by_left)
      (subst (λ x. Natural k (staircase k left.left) (plan x (staircase k left.left))) z
      (staircase-planned most_freed k left.left (all_map (λ l r. rising-low k 0 l r) left.ascending)))

  few : (plan_of t).g ≤ most_aside
  few = let g = natural.none-aside in omega arith

  -- what is left of the planner's causes
  quiet-aside : too_many_aside t ≡ false
  quiet-aside = le-ltb most_aside (plan_of t).g few

  pub made-planned : PlannedInOrder k n t
  made-planned = record {
    kept = natural.all-kept ∙ checks-count;
    gap = natural.none-aside;
    own = natural.own-places ∙ ap (from k) checks-count;
    information = natural.information;
    accepted = λ p w a b. gap-decides t (length p) (length w) false facts.accepted a b quiet-aside;
    refused = λ p w. lengths-decide t (length p) (length w) facts.accepted quiet-aside;
  }

  -- "files go out in natural order": the block that planning and then encoding to the last step gives, at any size z, begins with the
  -- information
  module _ (plan_buffer work : List ℕ) (z : ℕ) (information block_buffer scratch_buffer : List ℕ) (limit : ℕ) (planned : planning_refusal t plan_buffer work ≡ 0)
      (lent : ToTheLastStep t (handed t plan_buffer work) z information block_buffer scratch_buffer limit) where
    -- the plan and the block, as they were written
    abbrev p : List ℕ
    p = handed t plan_buffer work

    abbrev sent : List ℕ
    sent = encode_block_after p z information block_buffer scratch_buffer limit

    one : TheOneBlock t p z information block_buffer scratch_buffer limit
    one = planning-then-encoding t plan_buffer work planned z information block_buffer scratch_buffer limit lent

    kept-are : (plan_of t).M ≡ n - k
    kept-are = natural.all-kept ∙ checks-count

    info-is : info_in p ≡ from 0 k
    info-is = ap info_in (plan-written t plan_buffer work planned) ∙ own-info by_rule t facts.accepted few ∙ natural.information

    below : (j : ℕ) → j < k → j < info_count p
    below j h =
        let e : info_count p ≡ places t - (plan_of t).M = ap info_count (plan-written t plan_buffer work planned) ∙ own-places by_rule t facts.accepted few in
        let m = kept-are in
        let q = facts.places-are in
        let a = left.above in
        omega arith

    in_order : (j : ℕ) → j < k → part_at z j sent ≡ part_at z j information
    in_order j h =
        let e : 0 + j ≡ j = omega arith in
        ap (λ x. part_at z x sent) (sym (ap (λ l. get_or l j 0) info-is ∙ from_at 0 k j h ∙ e)) ∙ one.carries.carries j (below j h)

    information-long : length information ≡ k * z
    information-long =
        let a = left.above in
        let q = facts.places-are in
        let m : plan_kept p ≡ n - k = ap plan_kept (plan-written t plan_buffer work planned) ∙ own-kept by_rule t facts.accepted few ∙ kept-are in
        let e : places t - plan_kept p ≡ k = omega arith in
        lent.info-long ∙ ap (λ x. x * z) e

    pub made-in-order : take (k * z) sent ≡ information
    made-in-order = first-packets z k sent information in_order ∙ take_all (k * z) information (let l = information-long in omega arith)
