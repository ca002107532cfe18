-- Why is this packet missing? (document 02, C-21): the call with its refusals. Full repair runs first, and the reason for one place is told.
use Rattle.std.specs.Prelude.{◌≡◌, Bool, true, false, not, ◌||◌, List, [], ◌∷◌, ◌++◌, ℕ, zero, suc, ◌-◌, eqb, ltb, length, replicate}
use Rattle.std.specs.declared.result.Result.{Result}
use Rattle.std.specs.declared.result.Result.TheVariants.{Ok, Err}
use Rattle.refusals.specs.Refusals.{number_of, check_of, byte_of}
use Rattle.refusals.specs.declared.Refusal.{Refusal}
use Rattle.explain.specs.Kinds.{kind_of as told_kind, length_of}
use Rattle.erasure.specs.Offered.{byte_over}
use Rattle.erasure.specs.Restoring.{tally}
use Rattle.full.specs.Full.{wrong_buffers, clashing, full_refusal, full_block_after, full_map_after, full_work_after}
use Rattle.reasons.specs.Reasons.{kind_of, Listed}
use Rattle.table.specs.FirstCause.{first_cause, wrong_length}
use Rattle.table.specs.Table.{places, checks, table_causes}
use Rattle.why.specs.declared.Reason.{Reason}

-- "The reason buffer has exactly 1,024 16-bit numbers"
abbrev pub reason_numbers : ℕ
reason_numbers = 1024

-- ---- the call: table t, block b, map, work and reason of any length and content, and a place p
-- 5: block, map or work of wrong length, or the reason buffer
abbrev pub wrong_lent : List ℕ → List ℕ → List ℕ → List ℕ → List ℕ → Bool
wrong_lent t b map work reason = wrong_buffers t b map work || wrong_length (length reason) reason_numbers

-- "14, place not below n"
abbrev pub not_below : ℕ → ℕ → Bool
not_below p n = not (ltb p n)

-- the causes beyond the table's and before the repair, 5, 7 and 14
abbrev pub own_causes : List ℕ → List ℕ → List ℕ → List ℕ → ℕ → List ℕ → List (Bool × ℕ)
own_causes t b map work p reason = (wrong_lent t b map work reason, 5) ∷ (byte_over map, 7) ∷ (not_below p (places t), 14) ∷ []

-- all before the repair, in their order
abbrev pub early_causes : List ℕ → List ℕ → List ℕ → List ℕ → ℕ → List ℕ → List (Bool × ℕ)
early_causes t b map work p reason = table_causes t ++ own_causes t b map work p reason

-- "after all of document 01's refusals except 8": then 8
abbrev pub why_causes : List ℕ → List ℕ → List ℕ → List ℕ → ℕ → List ℕ → List (Bool × ℕ)
why_causes t b map work p reason = early_causes t b map work p reason ++ ((clashing t b map, 8) ∷ [])

unfoldable pub why_refusal : List ℕ → List ℕ → List ℕ → List ℕ → ℕ → List ℕ → ℕ
why_refusal t b map work p reason = first_cause (why_causes t b map work p reason)

-- the kind of the reason, the length of its list, and full repair's counts; 0 on refusal; check and byte are 0 as full repair's are
pub record WhyAnswer : Type 0 where
  pub refusal : ℕ
  pub kind : ℕ
  pub length : ℕ
  pub restored : ℕ
  pub lost : ℕ
  pub check : ℕ
  pub byte : ℕ

-- a refusal
abbrev pub why_refused : ℕ → WhyAnswer
why_refused r = record { refusal = r; kind = 0; length = 0; restored = 0; lost = 0; check = 0; byte = 0 }

-- by the refusal's number, 0 for none, the kind, the list and the map afterwards
abbrev pub why_answer_at : ℕ → ℕ → List ℕ → List ℕ → WhyAnswer
why_answer_at zero kind list after = record { refusal = 0; kind = kind; length = length list; restored = tally 2 after; lost = tally 1 after; check = 0; byte = 0 }
why_answer_at (suc r) kind list after = why_refused (suc r)

module _ (t b map work : List ℕ) (p : ℕ) (reason : List ℕ) where
  -- "The call runs the full repair and leaves block and map as that does, refusal 8 included": and work; as they were where this call is
  -- refused for another cause
  abbrev pub as_full : Bool
  as_full = eqb (why_refusal t b map work p reason) (full_refusal t b map work)

  abbrev pub why_block_after : List ℕ
  why_block_after = elim as_full [ true ↦ full_block_after t b map work | false ↦ b ]

  abbrev pub why_map_after : List ℕ
  why_map_after = elim as_full [ true ↦ full_map_after t b map work | false ↦ map ]

  abbrev pub why_work_after : List ℕ
  why_work_after = elim as_full [ true ↦ full_work_after t b map work | false ↦ work ]

  -- "the list ascending, then zeros"; on refusal the buffer is kept
  abbrev pub reason_after : List ℕ → List ℕ
  reason_after list = elim (eqb (why_refusal t b map work p reason) 0) [ true ↦ list ++ replicate (reason_numbers - length list) 0 | false ↦ reason ]

  -- "its length is returned"
  abbrev pub why_answer : List ℕ → WhyAnswer
  why_answer list = why_answer_at (why_refusal t b map work p reason) (kind_of map (checks t) p) list why_map_after

-- what the code answers
abbrev pub why_answer_of : Result Reason Refusal → WhyAnswer
why_answer_of (Ok r) = record {
  refusal = 0;
  kind = told_kind r.told;
  length = length_of r.told;
  restored = r.restored;
  lost = r.lost;
  check = 0;
  byte = 0;
}
why_answer_of (Err r) = record {
  refusal = number_of r;
  kind = 0;
  length = 0;
  restored = 0;
  lost = 0;
  check = check_of r;
  byte = byte_of r;
}

-- what the call answers, and what it leaves in block, map, work and reason: there is only one list for the place (reasons' listed-one)
pub record Explains (t b map work : List ℕ) (p : ℕ) (reason : List ℕ) (r : WhyAnswer) (b' map' work' reason' : List ℕ) : Type 0 where
  pub list : List ℕ
  pub listed : why_refusal t b map work p reason ≡ 0 → Listed (places t) (checks t) map p list
  pub report : r ≡ why_answer t b map work p reason list
  pub reason-is : reason' ≡ reason_after t b map work p reason list
  pub block-is : b' ≡ why_block_after t b map work p reason
  pub map_is : map' ≡ why_map_after t b map work p reason
  pub work-is : work' ≡ why_work_after t b map work p reason
