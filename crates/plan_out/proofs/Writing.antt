-- The counts of a plan fit 32 bits, and the answer is the rule's.
use mathlib.Core.Path.{◌≡◌, refl, sym, ◌∙◌, subst}
use mathlib.Core.List.{List, [], ◌∷◌, map}
use Prim.Native.Nat.{ℕ, ◌+◌, ◌≤◌}
use native.Mathlib.Omega.{arith}
use lib.ListN.{length, take}
use Rattle.table.specs.Accepted.{Located}
use Rattle.table.specs.Checks.{check}
use Rattle.table.specs.Table.{most_checks, most_ones, places, checks, ones, refusal, number}
use Rattle.table.specs.TableLaws.{accepted}
use Rattle.plan.specs.declared.Step.{Step}
use Rattle.plan.specs.declared.Step.TheVariants.{Clear, Add}
use Rattle.plan.specs.Layout.{most_aside, least_plan, least_numbers}
use Rattle.plan.specs.ReadBack.{numbers-length}
use Rattle.plan.specs.Step.{add_steps}
use Rattle.rule.specs.Choices.{by_rule}
use Rattle.rule.proofs.WithinLimits.{numbers-limit, kept-length, kept-weight}
use Rattle.rule.specs.Buffers.{solved, Fitted}
use Rattle.rule.specs.PlanOf.{plan_of, numbers_of, with_numbers, numbers_by, plan_of_by}
use Rattle.rule.specs.Rule.{kept}
use Rattle.peel.specs.Choice.{ChoiceOf}
use Rattle.columns.specs.Fitting.{Ready}
use Rattle.compose.specs.Compose.{Phases, Composed}
use Rattle.planning.specs.Planning.{planning_answer_at, PlanningAnswer}
use Rattle.planning.specs.Refusals.{gap_is}

adds-few : (xs : List Step) → add_steps xs ≤ length xs
adds-few [] = omega arith
adds-few (Clear to ∷ xs) = let h = adds-few xs in omega arith
adds-few (Add to from ∷ xs) = let h = adds-few xs in omega arith

-- six numbers make the answer
same_answer : {r l k o g d r' l' k' o' g' d' : ℕ} → r ≡ r' → l ≡ l' → k ≡ k' → o ≡ o' → g ≡ g' → d ≡ d'
    → ◌≡◌ {A = PlanningAnswer} (record { refusal = r; length = l; kept = k; ones = o; gap = g; additions = d })
    (record { refusal = r'; length = l'; kept = k'; ones = o'; gap = g'; additions = d' })
same_answer a b c d e f = cc

module _ (t : List ℕ) (ok : refusal t ≡ 0) where
  -- M, W and g are those of the rule
  pub kept-is : (plan_of t).M ≡ length (kept (checks t))
  unfolding plan_of_by
  kept-is = refl

  pub ones_is : (plan_of t).W ≡ ones (kept (checks t))
  unfolding plan_of_by
  ones_is = refl

  pub kept-few : (plan_of t).M ≤ most_checks
  unfolding plan_of_by
  kept-few = let a = kept-length (checks t) in let b = (accepted t ok).few-checks in omega arith

  ones-few : (plan_of t).W ≤ most_ones
  unfolding plan_of_by
  ones-few = let a = kept-weight (checks t) in let b = (accepted t ok).few_ones in omega arith

  numbers_fit : (plan_of t).g ≤ most_aside → least_numbers + length (plan_of t).info + length (plan_of t).steps ≤ least_plan
  unfolding plan_of_by
  numbers_fit h = let a = accepted t ok in numbers-limit by_rule (places t) (checks t) a.distinct a.low a.few-places a.few_ones h

  length-few : (plan_of t).g ≤ most_aside → length (numbers_of t) ≤ least_plan
  unfolding numbers_by
  length-few h = let a = numbers-length (places t) (plan_of t).g (plan_of t).M (plan_of t).info (plan_of t).steps in let b = numbers_fit h in omega arith

  pub adds-most : (plan_of t).g ≤ most_aside → add_steps (plan_of t).steps ≤ least_plan
  adds-most h = let a = adds-few (plan_of t).steps in let b = numbers_fit h in omega arith

-- ---- what the next phases ask
module _ {t starts order owns aside : List ℕ} {M W taken put : ℕ} (lo : Located t (number t) (places t) starts) (ch : ChoiceOf t order owns aside M W taken put) (few : put ≤ most_aside) where
  ok : refusal t ≡ 0
  ok = lo.table.accepted

  pub fit-ready : {m n : ℕ} → m ≡ number t → n ≡ places t → Ready t m n starts order owns taken aside put
  fit-ready em en = record {
    located = rw (em, en) lo;
    chosen = ch.chosen;
    few = omega arith;
  }

  pub plan-ready : {m n : ℕ} {fitted rows : List ℕ} → m ≡ number t → n ≡ places t
      → Fitted n (solved (check t m) order owns taken) (map (check t m) (take put aside)) put fitted rows
      → Phases t starts order owns taken aside put fitted rows
  plan-ready {m} {n} {fitted} {rows} em en f = record {
    located = lo;
    chosen = ch.chosen;
    few = few;
    fits = subst (λ (i : ℕ). Fitted (places t) (solved (check t i) order owns taken) (map (check t i) (take put aside)) put fitted rows) em
        (subst (λ (i : ℕ). Fitted i (solved (check t m) order owns taken) (map (check t m) (take put aside)) put fitted rows) en f);
  }

  pub number-kept : M ≡ (plan_of t).M
  number-kept = ch.keeps ∙ sym (kept-is t ok)

  gap-few : (plan_of t).g ≤ most_aside
  gap-few = let a = gap_is t in let b = ch.gap in omega arith

  pub kept-fits : M ≤ most_checks
  kept-fits = let a = kept-is t ok in let b = ch.keeps in let c = kept-few t ok in omega arith

  pub ones-fit : W ≤ most_ones
  ones-fit = let a = ones_is t ok in let b = ch.with-ones in let c = ones-few t ok in omega arith

  pub length-fits : {before after : List ℕ} {count adds : ℕ} → Composed t before after count adds → count ≤ least_plan
  length-fits e = let a = length-few t ok gap-few in let b = e.numbers in omega arith

  pub adds_fit : {before after : List ℕ} {count adds : ℕ} → Composed t before after count adds → adds ≤ least_plan
  adds_fit e = let a = adds-most t ok gap-few in let b = e.additions in omega arith

  pub written_out : {before after : List ℕ} {count adds : ℕ} → Composed t before after count adds
      → (◌≡◌ {A = PlanningAnswer} (record { refusal = 0; length = count; kept = M; ones = W; gap = put; additions = adds }) (planning_answer_at 0 t))
      × (after ≡ with_numbers t before)
  written_out {before} {after} {count} {adds} e = (
    same_answer refl e.numbers (ch.keeps ∙ sym (kept-is t ok)) (ch.with-ones ∙ sym (ones_is t ok)) (ch.gap ∙ sym (gap_is t)) e.additions,
    e.list,
  )
