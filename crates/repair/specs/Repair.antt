-- Repair (document 01, "Repair and the other calls"): the call with its refusals. The lost map has a byte a place: 0 received,
-- 1 lost, 2 restored, and by document 02, C-17, 3 for a received place that is blamed: "answer with that repair and mark the place 3".
use Rattle.std.specs.Prelude.{◌≡◌, Bool, true, false, not, ◌&&◌, List, [], ◌∷◌, ◌++◌, ℕ, zero, suc, eqb, set}
use Rattle.std.proofs.Math.Option.{Option, none, some}
use Rattle.suspects.specs.Blame.{lost_too, blamed, nobody}
use Rattle.erasure.specs.Offered.{wrong_lengths, byte_over, handed_on}
use Rattle.erasure.specs.Restoring.{State, zero_lost, tally, outcome, contradicting, agreeing}
use Rattle.faults.specs.Faults.{Fault, check_of, byte_of}
use Rattle.report.specs.Report.{RepairAnswer, accepted_with, refused_with, repair_answer_of, told_by}
use Rattle.std.specs.declared.result.Result.{Result}
use Rattle.refusals.specs.declared.Refusal.{Refusal}
use Rattle.report.specs.declared.Repaired.{Repaired}
use Rattle.table.specs.FirstCause.{first_cause}
use Rattle.table.specs.Packets.{packets, joined}
use Rattle.table.specs.Table.{places, size, table_causes}

-- ---- the call: table t, block b and map of any length and content
-- the map that repair goes by: the blamed place is "marked lost too"
abbrev pub believed : Option ℕ → List ℕ → List ℕ
believed none map = map
believed (some p) map = lost_too map p

-- the map that it leaves: the blamed place is marked 3
abbrev pub marked : Option ℕ → List ℕ → List ℕ
marked none map = map
marked (some p) map = set map p 3

-- what restoring comes to by it
abbrev pub repair_outcome : List ℕ → List ℕ → List ℕ → State
repair_outcome t b map = outcome t b (believed (blamed t b map) map)

-- 8: "received packets contradict", and no place is blamed for it: "Otherwise 8 stays"
abbrev pub contradicts : List ℕ → List ℕ → List ℕ → Bool
contradicts t b map = not (agreeing t b map) && nobody (blamed t b map)

-- the causes in their order, 1 to 5, 7 and 8
abbrev pub repair_causes : List ℕ → List ℕ → List ℕ → List (Bool × ℕ)
repair_causes t b map = table_causes t ++ ((wrong_lengths t b map, 5) ∷ (byte_over map, 7) ∷ (contradicts t b map, 8) ∷ [])

unfoldable pub repair_refusal : List ℕ → List ℕ → List ℕ → ℕ
repair_refusal t b map = first_cause (repair_causes t b map)

-- by the refusal's number, 0 for none, what restoring comes to, in which the blamed place is restored, and what is handed on
abbrev pub repair_answer_at : ℕ → State → Option Fault → RepairAnswer
repair_answer_at zero m f = accepted_with (tally 2 m.map) (tally 1 m.map) m.adds
repair_answer_at (suc r) m f = refused_with (suc r) (check_of f) (byte_of f)

-- "with 8, check and byte are those of the repair without this rule" (C-17)
abbrev pub repair_answer : List ℕ → List ℕ → List ℕ → RepairAnswer
repair_answer t b map = repair_answer_at (repair_refusal t b map) (repair_outcome t b map) (handed_on (repair_refusal t b map) (contradicting t b map))

-- the block afterwards: the outcome's; after 8 lost places are zero; else as it was
abbrev pub repair_block_after : List ℕ → List ℕ → List ℕ → List ℕ
repair_block_after t b map =
    elim (eqb (repair_refusal t b map) 0) [
      | true ↦ joined (repair_outcome t b map).block
      | false ↦
          elim (eqb (repair_refusal t b map) 8) [ true ↦ joined (zero_lost (size t) map (packets (size t) (places t) b)) | false ↦ b ]
    ]

-- the map afterwards: restored places are marked 2, the blamed one 3; as it was on refusal
abbrev pub repair_map_after : List ℕ → List ℕ → List ℕ → List ℕ
repair_map_after t b map = elim (eqb (repair_refusal t b map) 0) [ true ↦ marked (blamed t b map) (repair_outcome t b map).map | false ↦ map ]

-- what the call answers, and what it leaves in block and map
pub record Answers (t b map : List ℕ) (r : Result Repaired Refusal) (b' map' : List ℕ) : Type 0 where
  pub report : repair_answer_of r ≡ repair_answer t b map
  pub told : told_by r ≡ handed_on (repair_refusal t b map) (contradicting t b map)
  pub block-is : b' ≡ repair_block_after t b map
  pub map_is : map' ≡ repair_map_after t b map
