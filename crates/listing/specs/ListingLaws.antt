-- The text of a table is that of its plan's numbers, and no text has more than 192,000 bytes.
use Rattle.std.specs.Prelude.{◌≡◌, refl, Bool, true, false, not, ◌||◌, List, ℕ, ◌%◌, ◌<◌, ◌≤◌, eqb, ltb, length, take}
use Rattle.std.proofs.Common.{sym, ap, ap₂, arith, eqb-true, eq-eqb, ne_eqb, lt-ltb, ltb-true, ltb-false, length-take, take_all}
use Rattle.std.proofs.lemmas.Bool.{eqb-false}
use Rattle.lists.specs.Tests.{by_bool}
use Rattle.table.specs.Table.{places, size, checks, refusal}
use Rattle.table.specs.TableLaws.{accepted}
use Rattle.plan.specs.Layout.{most_aside}
use Rattle.rule.proofs.WithinLimits.{kept-weight}
use Rattle.planning.specs.Planning.{plan_of, numbers_of, planning_refusal_at, least_plan, work_words, numbers_by, plan_of_by}
use Rattle.planning.specs.PlanningLaws.{accepted-planning}
use Rattle.theorems.specs.OwnPlan.{by_rule, own-info, own-steps, own-accepted}
use Rattle.table_file.specs.Words.{words_of, unfit}
use Rattle.listing.specs.Listing.{table_text, listing}
use Rattle.plan_text.specs.PlanText.{plan_text, plan_text_of, refused_line, most_text}
use Rattle.plan_text.specs.PlanTextLaws.{plan-most, refused-most}

-- ---- a table
pub ones-few : (t : List ℕ) → refusal t ≡ 0 → (plan_of t).W ≤ 6144
unfolding plan_of_by
ones-few t ok = let a = kept-weight (checks t) in let b = (accepted t ok).few_ones in omega arith

-- the text of an accepted table is that of its plan's numbers
pub own-text : (t : List ℕ) → refusal t ≡ 0 → (plan_of t).g ≤ most_aside
    → plan_text_of (numbers_of t) (size t) (plan_of t).W ≡ plan_text (places t) (size t) (plan_of t).M (plan_of t).W (plan_of t).g (plan_of t).info (plan_of t).steps
unfolding numbers_by
own-text t ok few = ap₂ (plan_text (places t) (size t) (plan_of t).M (plan_of t).W (plan_of t).g) (own-info by_rule t ok few) (own-steps by_rule t ok few)

pub accepted-text : (t : List ℕ) → planning_refusal_at t least_plan work_words ≡ 0 → refusal t ≡ 0 → (plan_of t).g ≤ most_aside
    → table_text t ≡ plan_text_of (numbers_of t) (size t) (plan_of t).W
unfolding table_text
accepted-text t h ok few = rw (eq-eqb (planning_refusal_at t least_plan work_words) 0 h, table_text) (sym (own-text t ok few))

pub refused-text : (t : List ℕ) → (planning_refusal_at t least_plan work_words ≡ 0 → ⊥) → table_text t ≡ refused_line (planning_refusal_at t least_plan work_words)
unfolding table_text
refused-text t h = rw (ne_eqb (planning_refusal_at t least_plan work_words) 0 h, table_text) refl

table-most : (t : List ℕ) → length (table_text t) ≤ most_text
table-most t = by_bool (eqb (planning_refusal_at t least_plan work_words) 0)
    (λ e. let h = eqb-true (planning_refusal_at t least_plan work_words) 0 e in
    let ok = accepted-planning t least_plan work_words h in
    rw (accepted-text t h ok.0 ok.1) (plan-most (numbers_of t) (size t) (plan_of t).W (own-accepted by_rule t ok.0 ok.1) (accepted t ok.0).few_bytes (ones-few t ok.0)))
    (λ e. rw (refused-text t (eqb-false (planning_refusal_at t least_plan work_words) 0 e)) (refused-most (planning_refusal_at t least_plan work_words)))

-- ---- a file
too_long : (file : List ℕ) → 13322 < length file → unfit file ≡ true
too_long file h = or-true (not (eqb (length file % 2) 0)) (lt-ltb 13322 (length file) h)
  where
    or-true : (a : Bool) {b : Bool} → b ≡ true → (a || b) ≡ true
    or-true true e = refl
    or-true false e = e

pub listing-most : (file : List ℕ) → length (listing file) ≤ most_text
unfolding listing
listing-most file = by_bool (unfit file) (λ e. rw (e, listing) (refused-most 3)) (λ e. rw (e, listing) (table-most (words_of file)))

-- a file that is too long may be cut short, as long as it stays too long
pub listing-cut : (file : List ℕ) (n : ℕ) → 13322 < n → listing (take n file) ≡ listing file
unfolding listing
listing-cut file n h = by_bool (ltb 13322 (length file))
    (λ e. let l = ltb-true 13322 (length file) e in rw (too_long (take n file) (simp length-take (omega arith)), too_long file l, listing) refl)
    (λ e. let l = ltb-false 13322 (length file) e in ap listing (take_all n file (omega arith)))
