-- What is written for a table is its text.
use mathlib.Core.Path.{◌≡◌, refl, sym, ap, ap₂, ◌∙◌}
use mathlib.Core.Bool.{true}
use mathlib.Core.List.{List, ◌++◌}
use Prim.Native.Nat.{ℕ, ◌≤◌}
use native.Mathlib.Nat.{zero-add}
use native.Mathlib.Omega.{arith}
use lib.ListN.{length, take, drop, replicate, length-replicate}
use Rattle.io.specs.Counts.{IsPrefixLen}
use Rattle.table.specs.Table.{size}
use Rattle.table.specs.TableLaws.{accepted}
use Rattle.plan.specs.Step.{add_steps}
use Rattle.plan.specs.Layout.{steps_of}
use Rattle.planning.specs.declared.Planned.{Planned}
use Rattle.std.specs.declared.result.Result.{Result}
use Rattle.std.specs.declared.result.Result.TheVariants.{Ok, Err}
use Rattle.refusals.specs.declared.Refusal.{Refusal}
use Rattle.refusals.specs.Refusals.{number_of, refusal_of}
use Rattle.refusals.proofs.Numbers.{number-some}
use Rattle.planning.specs.Planning.{plan_of, numbers_of, planning_answer_of, planning_answer, planning_plan_after, planning_refusal_at, least_plan, work_words}
use Rattle.theorems.specs.OwnPlan.{by_rule, own-steps}
use Rattle.own_plan.specs.Own.{Own, lent_work, own-refusal, own-plan}
use Rattle.std.specs.declared.option.Option.{Option}
use Rattle.std.specs.declared.option.Option.TheVariants.{Some}
use Rattle.table_file.specs.Words.{unfit, words_read, words_after}
use Rattle.table_file.proofs.WordsLaws.{words-taken}
use Rattle.text.specs.Lines.{Appended}
use Rattle.listing.specs.Listing.{table_text, listing}
use Rattle.listing.specs.ListingLaws.{ones-few, accepted-text, refused-text}
use Rattle.plan_text.specs.PlanText.{refused_line, plan_text_of, most_text}
use Rattle.plan_text.specs.PlanTextLaws.{plan-most}

-- a plan buffer of the least length
abbrev pub plan_buffer : List ℕ
plan_buffer = replicate least_plan 0

refusal_is : (t : List ℕ) (r : Result Planned Refusal) → planning_answer_of r ≡ planning_answer t plan_buffer lent_work → refusal_of r ≡ planning_refusal_at t least_plan work_words
refusal_is t r a = own-refusal t plan_buffer r a ∙ ap (λ (k : ℕ). planning_refusal_at t k work_words) (length-replicate {A = ℕ} least_plan 0)

-- the table is refused
pub refused-put : (t : List ℕ) (r : Refusal) → planning_answer_of (Err r) ≡ planning_answer t plan_buffer lent_work → refused_line (number_of r) ≡ table_text t
refused-put t r a = let e = refusal_is t (Err r) a in ap refused_line e ∙ sym (refused-text t (λ z. number-some r (e ∙ z)))

-- the table is accepted
module _ (t : List ℕ) (r : Planned) (a : planning_answer_of (Ok r) ≡ planning_answer t plan_buffer lent_work) where
  module _ (buf : List ℕ) (b : buf ≡ planning_plan_after t plan_buffer lent_work) where
    pub own : Own t r buf
    own = own-plan t plan_buffer r a buf b

    abbrev plan : List ℕ
    plan = take r.length buf

    pub plan-adds : r.additions ≡ add_steps (steps_of plan)
    plan-adds = own.additions ∙ sym (ap add_steps (ap steps_of own.numbers ∙ own-steps by_rule t own.accepted own.few))

    module _ {s : ℕ} (e : s ≡ size t) where
      pub plan-fits : (out : List ℕ) → most_text ≤ length out → length (plan_text_of plan s r.ones) ≤ length out
      plan-fits out h =
          let w : r.ones ≤ 6144 = rw own.ones (ones-few t own.accepted) in
          let b = (accepted t own.accepted).few_bytes in
          let m = plan-most plan s r.ones own.formed (omega arith) w in omega arith

      pub plan-put : plan_text_of plan s r.ones ≡ table_text t
      plan-put = ap₂ (λ x. plan_text_of x s) own.numbers own.ones ∙ ap (λ x. plan_text_of (numbers_of t) x (plan_of t).W) e ∙ sym (accepted-text t (sym (refusal_is t (Ok r) a)) own.accepted own.few)

-- ---- a file
-- written at the start of the buffer
pub at-start : {out word out' : List ℕ} {r : ℕ} → Appended out 0 word out' r → (out' ≡ word ++ drop r out) × ((r ≡ length word) × IsPrefixLen r out')
at-start {out} {word} {out'} {r} p =
    let e : r ≡ length word = p.ends ∙ zero-add (length word) in
    (p.is ∙ ap (λ (k : ℕ). word ++ drop k out) (sym p.ends), (e, (p.within, p.counts)))

-- refused with 3
pub unfit-text : (file : List ℕ) → unfit file ≡ true → refused_line 3 ≡ listing file
unfolding listing
unfit-text file e = rw (e, listing) refl

-- a buffer for the words, and their text
abbrev pub word_buffer : List ℕ
word_buffer = replicate 6661 0

pub word_room : 6661 ≤ length word_buffer
word_room = rw (length-replicate {A = ℕ} 6661 0) (omega arith)

pub words-text : (file : List ℕ) {r : Option ℕ} {words : List ℕ} {n : ℕ} → r ≡ words_read file → words ≡ words_after file word_buffer → r ≡ Some n
    → table_text (take n words) ≡ listing file
unfolding listing
words-text file {r} {words} {n} e w z =
    let t = words-taken file word_buffer n word_room (sym e ∙ z) in
    rw (t.fit, listing) (ap table_text (ap (take n) w ∙ t.are))
