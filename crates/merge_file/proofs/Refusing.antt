-- The refusals that are said.
use Rattle.std.specs.Prelude.{◌≡◌, ◌≢◌, true, List, [], ◌∷◌, ℕ}
use Rattle.std.proofs.Common.{arith, refl, ap, ◌∙◌, ne_eqb}
use Rattle.std.specs.declared.result.Result.TheVariants.{Err}
use Rattle.refusals.proofs.Numbers.{number-some}
use Rattle.refusals.specs.Refusals.{number_of}
use Rattle.refusals.specs.declared.Fault.{Fault}
use Rattle.refusals.specs.declared.Refusal.{Refusal}
use Rattle.refusals.specs.declared.Refusal.TheVariants.{Buffer, Map, Contradiction, NoCodeword}
use Rattle.lists.specs.Lists.{has}
use Rattle.table.specs.FirstCauseLaws.{refused-by}
use Rattle.erasure.specs.Offered.{Held}
use Rattle.merge.specs.Merge.{merge_causes, merge_refusal, MergeAnswer, merge_answer_of, merge_answer}
use Rattle.merge.proofs.MergeLaws.{refusal-told}

-- of the table
pub table-refusal : (r : Refusal) → has (number_of r) (1 ∷ 2 ∷ 3 ∷ 4 ∷ 5 ∷ 7 ∷ []) ≡ true → r ≢ Buffer → r ≢ Map → has (number_of r) (1 ∷ 2 ∷ 3 ∷ 4 ∷ []) ≡ true
table-refusal Buffer h a b = absurd (a refl)
table-refusal Map h a b = absurd (b refl)
table-refusal _ h a b = h

-- number 8 has two causes
pub not-eight : (r : Refusal) → ((f : Fault) → r ≢ Contradiction f) → r ≢ NoCodeword → number_of r ≢ 8
not-eight (Contradiction f) a b = absurd (a f refl)
not-eight NoCodeword a b = absurd (b refl)
not-eight _ a b = λ h. omega (arith, h)

-- of a call, neither accepted nor contradicted
before : (r : ℕ) → has r (0 ∷ 1 ∷ 2 ∷ 3 ∷ 4 ∷ 5 ∷ 7 ∷ 8 ∷ []) ≡ true → r ≢ 0 → r ≢ 8 → has r (1 ∷ 2 ∷ 3 ∷ 4 ∷ 5 ∷ 7 ∷ []) ≡ true
before r h a b = rw (ne_eqb r 0 a, ne_eqb r 8 b) at h

pub refused-before : (t : List ℕ) (one two out : Held) (r : Refusal) → merge_answer_of (Err r) ≡ merge_answer t one two out → number_of r ≢ 8
    → has (number_of r) (1 ∷ 2 ∷ 3 ∷ 4 ∷ 5 ∷ 7 ∷ []) ≡ true
unfolding merge_refusal
refused-before t one two out r e b =
    let is : number_of r ≡ merge_refusal t one two out = ap (λ (x : MergeAnswer). x.refusal) e ∙ refusal-told t one two out in
    before (number_of r) (ap (λ k. has k (0 ∷ 1 ∷ 2 ∷ 3 ∷ 4 ∷ 5 ∷ 7 ∷ 8 ∷ [])) is ∙ (refused-by (merge_causes t one two out) refl).only) (number-some r) b
