-- The refusals that are said.
use Rattle.std.specs.Prelude.{◌≡◌, ◌≢◌, true, List, [], ◌∷◌, ℕ}
use Rattle.std.proofs.Common.{refl, ap, ◌∙◌, ne_eqb}
use Rattle.refusals.specs.Refusals.{number_of}
use Rattle.refusals.specs.declared.Fault.{Fault}
use Rattle.refusals.specs.declared.Refusal.{Refusal}
use Rattle.refusals.specs.declared.Refusal.TheVariants.{Buffer, Map, Contradiction, NoCodeword, NoReason}
use Rattle.lists.specs.Lists.{has}
use Rattle.table.specs.FirstCauseLaws.{refused-by}
use Rattle.why.specs.Why.{WhyAnswer, why_refusal, why_causes, Explains}
use Rattle.why.proofs.WhyLaws.{refusal-told}

-- of the table
pub table-refusal : (r : Refusal) → has (number_of r) (1 ∷ 2 ∷ 3 ∷ 4 ∷ 5 ∷ 7 ∷ 14 ∷ 8 ∷ []) ≡ true → r ≢ Buffer → r ≢ Map → r ≢ NoReason → r ≢ NoCodeword → ((f : Fault) → r ≢ Contradiction f)
    → has (number_of r) (1 ∷ 2 ∷ 3 ∷ 4 ∷ []) ≡ true
table-refusal Buffer h a b c d e = absurd (a refl)
table-refusal Map h a b c d e = absurd (b refl)
table-refusal NoReason h a b c d e = absurd (c refl)
table-refusal NoCodeword h a b c d e = absurd (d refl)
table-refusal (Contradiction f) h a b c d e = absurd (e f refl)
table-refusal _ h a b c d e = h

-- of a call that isn't accepted
some : (r : ℕ) → has r (0 ∷ 1 ∷ 2 ∷ 3 ∷ 4 ∷ 5 ∷ 7 ∷ 14 ∷ 8 ∷ []) ≡ true → r ≢ 0 → has r (1 ∷ 2 ∷ 3 ∷ 4 ∷ 5 ∷ 7 ∷ 14 ∷ 8 ∷ []) ≡ true
some r h a = rw (ne_eqb r 0 a) at h

pub refused-some : (t b map work : List ℕ) (p : ℕ) (reason : List ℕ) (r : WhyAnswer) (b' map' work' reason' : List ℕ) → Explains t b map work p reason r b' map' work' reason' → r.refusal ≢ 0
    → has r.refusal (1 ∷ 2 ∷ 3 ∷ 4 ∷ 5 ∷ 7 ∷ 14 ∷ 8 ∷ []) ≡ true
unfolding why_refusal
refused-some t b map work p reason r b' map' work' reason' x ne =
    let is : r.refusal ≡ why_refusal t b map work p reason = ap (λ (a : WhyAnswer). a.refusal) x.report ∙ refusal-told t b map work p reason x.list in
    some r.refusal (ap (λ k. has k (0 ∷ 1 ∷ 2 ∷ 3 ∷ 4 ∷ 5 ∷ 7 ∷ 14 ∷ 8 ∷ [])) is ∙ (refused-by (why_causes t b map work p reason) refl).only) ne
