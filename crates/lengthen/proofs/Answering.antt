-- From what the core tells and leaves, and from a refusal before it, to the answer.
use mathlib.Core.Path.{◌≡◌, sym, ap, ap₂, ◌∙◌, subst}
use mathlib.Core.Bool.{true, false}
use mathlib.Core.List.{List}
use mathlib.Core.Logic.{◌≢◌}
use mathlib.Core.Option.{Option, none, some}
use Prim.Native.Nat.{ℕ, ◌*◌}
use lib.ListN.{length}
use borrow.Author.Tests.{ne_eqb}
use Rattle.entering.specs.Entering.{entered}
use Rattle.erasure.proofs.OfferedLaws.{none-handed}
use Rattle.erasure.specs.Offered.{Held, handed_on}
use Rattle.erasure.specs.Restoring.{agreeing, block_if, map_if, Counts, counts_if}
use Rattle.faults.proofs.FaultLaws.{no-fault, some-fault, nothing-told}
use Rattle.faults.specs.Faults.{Fault}
use Rattle.lengthen.specs.Lengthen.{start, lengthen_outcome, lengthen_fault, offer_causes, lengthen_refusal, Answers, LengthenFitting}
use Rattle.lengthen.specs.LengthenLaws.{offer-refused, not_eight, agreed-refusal, contradicted-refusal, after-accepted, after-contradicted, zeroed-already}
use Rattle.lengthen.proofs.LengthenTheorems.{refused-lengthening}
use Rattle.packets.specs.Filling.{Sized}
use Rattle.report.specs.Report.{repair_answer_of, told_by, accepted_with, refused_with}
use Rattle.report.specs.declared.Repaired.{Repaired}
use Rattle.restore.specs.Mending.{Mends, counts_of}
use Rattle.restore.specs.MendsLaws.{agrees-told, check-told, byte-told}
use Rattle.std.specs.declared.result.Result.{Result}
use Rattle.std.specs.declared.result.Result.TheVariants.{Err}
use Rattle.refusals.proofs.Numbers.{number-some, nothing-on}
use Rattle.refusals.specs.Refusals.{number_of}
use Rattle.refusals.specs.declared.Fault.{Fault as FaultFound}
use Rattle.refusals.specs.declared.Refusal.{Refusal}
use Rattle.table.specs.FirstCause.{first_cause}
use Rattle.table.specs.Table.{places, size}

-- ---- nothing before 8 refuses: what the core tells and leaves of what was entered
module _ (old new : List ℕ) (carried arrivals : Held) (f : LengthenFitting old new carried arrivals) (d : Result Repaired FaultFound) (b map b' map' : List ℕ)
    (block-is : b ≡ (start old new carried arrivals).block) (marks-are : map ≡ (start old new carried arrivals).map) (core : Mends new b map d b' map') where
  abbrev b₀ : List ℕ
  b₀ = (start old new carried arrivals).block

  abbrev map₀ : List ℕ
  map₀ = (start old new carried arrivals).map

  done : Mends new b₀ map₀ d b' map'
  done = subst (λ m. Mends new b₀ m d b' map') marks-are (subst (λ x. Mends new x map d b' map') block-is core)

  told : (counts_of d).agrees ≡ agreeing new b₀ map₀
  told = agrees-told new b₀ map₀ d b' map' done

  pub answer-accepted : (counts_of d).agrees ≡ true → (r : Result Repaired Refusal) → repair_answer_of r ≡ accepted_with (counts_of d).restored (counts_of d).lost (counts_of d).additions
      → told_by r ≡ none → Answers old new carried arrivals r b' map'
  answer-accepted pass r e h =
      let yes = sym told ∙ pass in
      let ok : lengthen_refusal old new carried arrivals ≡ 0 = agreed-refusal old new carried arrivals f yes in
      let all : counts_of d ≡ counts_if none map₀ (lengthen_outcome old new carried arrivals) = done.report ∙ ap (λ x. counts_if x map₀ (lengthen_outcome old new carried arrivals)) (no-fault (lengthen_fault old new carried arrivals) yes) in
      record {
        report = e ∙ ap (λ (x : Counts). accepted_with x.restored x.lost x.additions) all ∙ rw ok;
        told = h ∙ sym (ap (λ x. handed_on x (lengthen_fault old new carried arrivals)) ok);
        block-is = done.block-is ∙ ap (λ v. block_if v new b₀ map₀) yes ∙ sym (ap (λ (x : Held). x.block) (after-accepted old new carried arrivals ok));
        map_is = done.map_is ∙ ap (λ v. map_if v new b₀ map₀) yes ∙ sym (ap (λ (x : Held). x.map) (after-accepted old new carried arrivals ok));
      }

  pub answer-contradicted : (counts_of d).agrees ≡ false → (r : Result Repaired Refusal) → repair_answer_of r ≡ refused_with 8 (counts_of d).check (counts_of d).byte
      → told_by r ≡ some (record { check = (counts_of d).check; byte = (counts_of d).byte }) → Answers old new carried arrivals r b' map'
  answer-contradicted fail r e h =
      let no = sym told ∙ fail in
      let bad : lengthen_refusal old new carried arrivals ≡ 8 = contradicted-refusal old new carried arrivals f no in
      let check-is = check-told new b₀ map₀ d b' map' done in
      let byte-is = byte-told new b₀ map₀ d b' map' done in
      record {
        report = e ∙ rw bad (ap₂ (refused_with 8) check-is byte-is);
        told = h ∙ ap₂ (λ x y. some (record { check = x; byte = y })) check-is byte-is ∙ sym (some-fault (lengthen_fault old new carried arrivals) no) ∙ sym (ap (λ x. handed_on x (lengthen_fault old new carried arrivals)) bad);
        block-is = done.block-is ∙ ap (λ v. block_if v new b₀ map₀) no ∙ zeroed-already old new carried arrivals f ∙ sym (ap (λ (x : Held). x.block) (after-contradicted old new carried arrivals bad));
        map_is = done.map_is ∙ ap (λ v. map_if v new b₀ map₀) no ∙ sym (ap (λ (x : Held). x.map) (after-contradicted old new carried arrivals bad));
      }

-- ---- some cause before 8 holds
pub answer-refused : (old new : List ℕ) (carried arrivals : Held) (q : Refusal) → number_of q ≡ first_cause (offer_causes old new carried arrivals) → Answers old new carried arrivals (Err q) carried.block carried.map
answer-refused old new carried arrivals q is =
    let n : first_cause (offer_causes old new carried arrivals) ≢ 0 = λ z. number-some q (is ∙ z) in
    let told : lengthen_refusal old new carried arrivals ≡ number_of q = offer-refused old new carried arrivals n ∙ sym is in
    let k = refused-lengthening old new carried arrivals (λ z. number-some q (sym told ∙ z)) (λ z. not_eight old new carried arrivals (sym is ∙ sym told ∙ z)) in
    let other : number_of q ≢ 8 = λ z. not_eight old new carried arrivals (sym is ∙ z) in
    let on = nothing-on q other in
    record {
      report = ap₂ (λ x y. refused_with (number_of q) x y) on.0 on.1 ∙ ap (λ x. refused_with x 0 0) (sym told) ∙ sym k.0;
      told = nothing-told q other ∙ sym (ap (λ x. handed_on x (lengthen_fault old new carried arrivals)) told ∙ none-handed (number_of q) (lengthen_fault old new carried arrivals) (ne_eqb (number_of q) 8 other));
      block-is = sym (ap (λ (x : Held). x.block) k.1);
      map_is = sym (ap (λ (x : Held). x.map) k.1);
    }

-- ---- n old places, k new ones, and s bytes, as the code reads them
module _ (old new : List ℕ) (n k s : ℕ) (en : n ≡ places old) (ek : k ≡ places new) (es : s ≡ size new) where
  -- what is entered
  pub started : (carried arrivals : Held) → entered s n carried arrivals k ≡ start old new carried arrivals
  started carried arrivals = ap (λ x. entered x n carried arrivals k) es ∙ ap₂ (λ x y. entered (size new) x carried arrivals y) en ek

  -- what is lent
  pub lent : (b map : List ℕ) → length b ≡ places new * size new → length map ≡ places new → Sized k s b map
  lent b map lb lm = record { bytes = lb ∙ sym (ap₂ ◌*◌ ek es); marks = lm ∙ sym ek }
