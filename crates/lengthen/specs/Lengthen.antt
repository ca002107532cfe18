-- A longer table in the middle of a pass (document 02, C-22): the call with its refusals. The old table and the new one; what is carried, a
-- block and its map; and what has arrived since, a block and a map of 0 and 1.
use Rattle.std.specs.Prelude.{◌≡◌, Bool, true, false, not, ◌||◌, List, [], ◌∷◌, ◌++◌, ℕ, zero, suc, ◌-◌, ◌*◌, eqb, ltb, length, take}
use Rattle.std.proofs.Math.Option.{Option}
use Rattle.entering.specs.Entering.{entered}
use Rattle.erasure.specs.Offered.{Held, wrong_lengths, byte_over, handed_on}
use Rattle.erasure.specs.Restoring.{State, tally, outcome, contradicting, agreeing}
use Rattle.faults.specs.Faults.{Fault, check_of, byte_of}
use Rattle.lists.specs.Lists.{any_of}
use Rattle.longer.specs.Longer.{lengthens}
use Rattle.report.specs.Report.{RepairAnswer, accepted_with, refused_with, repair_answer_of, told_by}
use Rattle.std.specs.declared.result.Result.{Result}
use Rattle.refusals.specs.declared.Refusal.{Refusal}
use Rattle.report.specs.declared.Repaired.{Repaired}
use Rattle.table.specs.FirstCause.{first_cause}
use Rattle.table.specs.Packets.{joined}
use Rattle.table.specs.Table.{places, size, table_causes, refusal}

-- by the refusal's number, 0 for none, the map as entered, what restoring comes to, and what is handed on. "The reported counts are this
-- call's alone": restored is what was lost as entered and no longer is
abbrev pub lengthen_answer_at : ℕ → List ℕ → State → Option Fault → RepairAnswer
lengthen_answer_at zero map m f = accepted_with (tally 1 map - tally 1 m.map) (tally 1 m.map) m.adds
lengthen_answer_at (suc r) map m f = refused_with (suc r) (check_of f) (byte_of f)

module _ (old new : List ℕ) (carried arrivals : Held) where
  -- ---- what is carried and what has arrived come to
  -- "new places start as lost, new arrivals are entered as 0"
  abbrev pub start : Held
  start = entered (size new) (places old) carried arrivals (places new)

  -- "and the old repair goes on without C-17's rule"
  abbrev pub lengthen_outcome : State
  lengthen_outcome = outcome new start.block start.map

  -- what contradicts, if something does
  abbrev pub lengthen_fault : Option Fault
  lengthen_fault = contradicting new start.block start.map

  -- nothing contradicts
  abbrev pub calm : Bool
  calm = agreeing new start.block start.map

  -- ---- the causes
  -- 5: "Block and map have the new table's lengths; arrivals come in a block and map .. of those lengths too"
  abbrev pub wrong_either : Bool
  wrong_either = wrong_lengths new carried.block carried.map || wrong_lengths new arrivals.block arrivals.map

  -- 16: "the carried map is over 2 at an old place"
  abbrev pub carried_over : Bool
  carried_over = any_of (ltb 2) (take (places old) carried.map)

  -- "15 .. 16 ..; in that order after 5 and before 7"
  abbrev pub own_causes : List (Bool × ℕ)
  own_causes = (wrong_either, 5) ∷ (not (lengthens old new), 15) ∷ (carried_over, 16) ∷ (byte_over arrivals.map, 7) ∷ []

  -- those of the new table, and what comes behind them
  abbrev pub new_causes : List (Bool × ℕ)
  new_causes = table_causes new ++ (own_causes ++ ((not calm, 8) ∷ []))

  -- "The old table counts as 01's first"
  abbrev pub lengthen_causes : List (Bool × ℕ)
  lengthen_causes = table_causes old ++ new_causes

  -- all but 8
  abbrev pub offer_causes : List (Bool × ℕ)
  offer_causes = table_causes old ++ (table_causes new ++ own_causes)

  unfoldable pub lengthen_refusal : ℕ
  lengthen_refusal = first_cause lengthen_causes

  -- ---- what is answered, and what block and map hold afterwards
  abbrev pub lengthen_answer : RepairAnswer
  lengthen_answer = lengthen_answer_at lengthen_refusal start.map lengthen_outcome (handed_on lengthen_refusal lengthen_fault)

  -- the outcome's; "with 8 the map stays as then entered", and the block too, in which lost places are zero; else as they were
  abbrev pub lengthen_after : Held
  lengthen_after = elim (eqb lengthen_refusal 0) [
    | true ↦ record { block = joined lengthen_outcome.block; map = lengthen_outcome.map }
    | false ↦ elim (eqb lengthen_refusal 8) [ true ↦ start | false ↦ carried ]
  ]

  -- a call that nothing before 8 refuses
  pub record LengthenFitting : Type 0 where
    pub old-table : refusal old ≡ 0
    pub new-table : refusal new ≡ 0
    pub block-length : length carried.block ≡ places new * size new
    pub map-length : length carried.map ≡ places new
    pub arrivals-length : length arrivals.block ≡ places new * size new
    pub arrived-length : length arrivals.map ≡ places new
    pub longer : lengthens old new ≡ true
    pub carried-bytes : carried_over ≡ false
    pub arrived-bytes : byte_over arrivals.map ≡ false

  -- what the call answers, and what it leaves in block and map
  pub record Answers (r : Result Repaired Refusal) (block map : List ℕ) : Type 0 where
    pub report : repair_answer_of r ≡ lengthen_answer
    pub told : told_by r ≡ handed_on lengthen_refusal lengthen_fault
    pub block-is : block ≡ lengthen_after.block
    pub map_is : map ≡ lengthen_after.map
