-- Two aerials, one block (document 02, C-19): the call with its refusals. A map has a byte a place: 0 received, 1 lost, and 2 restored in
-- the third.
use Rattle.std.specs.Prelude.{◌≡◌, Bool, true, false, not, ◌||◌, List, [], ◌∷◌, ◌++◌, ℕ, zero, suc, ◌*◌, eqb, length}
use Rattle.std.proofs.Math.Option.{Option}
use Rattle.aerials.specs.Aerials.{kinds, merged}
use Rattle.erasure.specs.Offered.{Held, wrong_lengths, byte_over, handed_on, Fitting}
use Rattle.erasure.specs.Restoring.{State, tally, outcome, contradicting, agreeing}
use Rattle.faults.specs.Faults.{Fault, check_of, byte_of}
use Rattle.std.specs.declared.result.Result.{Result}
use Rattle.std.specs.declared.result.Result.TheVariants.{Ok, Err}
use Rattle.refusals.specs.Refusals.{number_of, check_of as check_in, byte_of as byte_in}
use Rattle.refusals.specs.declared.Refusal.{Refusal}
use Rattle.merge.specs.declared.Merged.{Merged}
use Rattle.report.specs.Report.{told_by}
use Rattle.table.specs.FirstCause.{first_cause}
use Rattle.table.specs.Packets.{joined}
use Rattle.table.specs.Table.{places, size, table_causes}

-- ---- what the listeners' blocks and maps come to under the table t
module _ (t : List ℕ) (one two : Held) where
  -- "Agreed and single packets go into a third block, clash and silence count as lost"
  abbrev pub third : Held
  third = merged (size t) one two (places t)

  -- "and the old repair without C-17's rule runs on it"
  abbrev pub merge_outcome : State
  merge_outcome = outcome t third.block third.map

  -- what contradicts in it, if something does
  abbrev pub merge_fault : Option Fault
  merge_fault = contradicting t third.block third.map

-- ---- the call: the table t, the listeners' blocks and maps, and those lent for the third, of any length and content
-- 5: a block or map of wrong length
abbrev pub wrong_any : List ℕ → Held → Held → Held → Bool
wrong_any t one two out = wrong_lengths t one.block one.map || (wrong_lengths t two.block two.map || wrong_lengths t out.block out.map)

-- 7: "a map byte over 1", of a listener
abbrev pub over_either : Held → Held → Bool
over_either one two = byte_over one.map || byte_over two.map

-- the causes in their order, 1 to 4, then 5, 7 and 8
abbrev pub own_causes : List ℕ → Held → Held → Held → List (Bool × ℕ)
own_causes t one two out = (wrong_any t one two out, 5) ∷ (over_either one two, 7) ∷ (not (agreeing t (third t one two).block (third t one two).map), 8) ∷ []

abbrev pub merge_causes : List ℕ → Held → Held → Held → List (Bool × ℕ)
merge_causes t one two out = table_causes t ++ own_causes t one two out

unfoldable pub merge_refusal : List ℕ → Held → Held → Held → ℕ
merge_refusal t one two out = first_cause (merge_causes t one two out)

-- "Report the four counts, which add up to n, and the repair's"; the check that fails and its byte, both 0 but for refusal 8
pub record MergeAnswer : Type 0 where
  pub refusal : ℕ
  pub agreed : ℕ
  pub single : ℕ
  pub silent : ℕ
  pub clash : ℕ
  pub restored : ℕ
  pub lost : ℕ
  pub additions : ℕ
  pub check : ℕ
  pub byte : ℕ

-- accepted: the kinds k of the places, and the old repair's counts
abbrev pub merged_with : List ℕ → ℕ → ℕ → ℕ → MergeAnswer
merged_with k restored lost additions = record {
  refusal = 0;
  agreed = tally 0 k;
  single = tally 1 k;
  silent = tally 2 k;
  clash = tally 3 k;
  restored = restored;
  lost = lost;
  additions = additions;
  check = 0;
  byte = 0;
}

-- a refusal: "With 8 all counts are 0", and with every other
abbrev pub refused_with : ℕ → ℕ → ℕ → MergeAnswer
refused_with r check byte = record { refusal = r; agreed = 0; single = 0; silent = 0; clash = 0; restored = 0; lost = 0; additions = 0; check = check; byte = byte }

-- by the refusal's number, 0 for none, the kinds of the places, what restoring comes to, and what is handed on
abbrev pub merge_answer_at : ℕ → List ℕ → State → Option Fault → MergeAnswer
merge_answer_at zero k m f = merged_with k (tally 2 m.map) (tally 1 m.map) m.adds
merge_answer_at (suc r) k m f = refused_with (suc r) (check_of f) (byte_of f)

module _ (t : List ℕ) (one two out : Held) where
  abbrev pub merge_answer : MergeAnswer
  merge_answer =
      merge_answer_at (merge_refusal t one two out) (kinds (size t) one two (places t)) (merge_outcome t one two) (handed_on (merge_refusal t one two out) (merge_fault t one two))

  -- the third block and map afterwards: the outcome's; "With 8 .. the third map keeps the merged 0 and 1, and lost places of the third block
  -- are zero"; else as they were
  abbrev pub merge_after : Held
  merge_after = elim (eqb (merge_refusal t one two out) 0) [
    | true ↦ record { block = joined (merge_outcome t one two).block; map = (merge_outcome t one two).map }
    | false ↦
        elim (eqb (merge_refusal t one two out) 8) [ true ↦ third t one two | false ↦ out ]
  ]

-- what the code answers
abbrev pub merge_answer_of : Result Merged Refusal → MergeAnswer
merge_answer_of (Ok r) = record {
  refusal = 0;
  agreed = r.agreed;
  single = r.single;
  silent = r.silent;
  clash = r.clash;
  restored = r.repaired.restored;
  lost = r.repaired.lost;
  additions = r.repaired.additions;
  check = 0;
  byte = 0;
}
merge_answer_of (Err r) = refused_with (number_of r) (check_in r) (byte_in r)

-- what the call answers, and what it leaves in the third block and map
pub record Answers (t : List ℕ) (one two out : Held) (r : Result Merged Refusal) (block' map' : List ℕ) : Type 0 where
  pub report : merge_answer_of r ≡ merge_answer t one two out
  pub told : told_by r ≡ handed_on (merge_refusal t one two out) (merge_fault t one two)
  pub block-is : block' ≡ (merge_after t one two out).block
  pub map_is : map' ≡ (merge_after t one two out).map

-- a call that none of 1 to 7 refuses
pub record FittingThree (t : List ℕ) (one two out : Held) : Type 0 where
  pub first : Fitting t one.block one.map
  pub second : Fitting t two.block two.map
  pub block-length : length out.block ≡ places t * size t
  pub map-length : length out.map ≡ places t
