-- Full repair (document 02, C-14): the call with its refusals, beside the old one. The lost map has a byte a place: 0 received, 1 lost,
-- 2 restored; work is "planning's work buffer, zero afterwards".
use Rattle.std.specs.Prelude.{◌≡◌, Bool, true, false, ◌||◌, List, [], ◌∷◌, ◌++◌, ℕ, zero, suc, ◌<◌, eqb, length, replicate}
use Rattle.std.proofs.Math.Option.{none}
use Rattle.std.specs.declared.result.Result.{Result}
use Rattle.std.specs.declared.result.Result.TheVariants.{Ok, Err}
use Rattle.refusals.specs.Refusals.{number_of, check_of, byte_of}
use Rattle.refusals.specs.declared.Refusal.{Refusal}
use Rattle.report.specs.Report.{told_by}
use Rattle.decided.specs.Decided.{clashes, solved_block, solved_map}
use Rattle.erasure.specs.Offered.{wrong_lengths, byte_over, Fitting, Agree}
use Rattle.erasure.specs.Restoring.{zero_lost, tally}
use Rattle.full.specs.declared.FullyRepaired.{FullyRepaired}
use Rattle.lists.specs.Lists.{All}
use Rattle.table.specs.Codewords.{IsCodeword}
use Rattle.table.specs.FirstCause.{first_cause, wrong_length}
use Rattle.table.specs.PacketCall.{part_at}
use Rattle.table.specs.Packets.{packets, joined}
use Rattle.table.specs.Table.{places, size, checks, table_causes, work_words}

-- ---- the call: table t, block b, map and work of any length and content
-- 5: block, map or work of wrong length
abbrev pub wrong_buffers : List ℕ → List ℕ → List ℕ → List ℕ → Bool
wrong_buffers t b map work = wrong_lengths t b map || wrong_length (length work) work_words

-- 8: "In this call refusal 8 means that no codeword agrees with them"
abbrev pub clashing : List ℕ → List ℕ → List ℕ → Bool
clashing t b map = clashes (size t) (checks t) (packets (size t) (places t) b) map

-- the causes in their order, 1 to 5, 7 and 8
abbrev pub full_causes : List ℕ → List ℕ → List ℕ → List ℕ → List (Bool × ℕ)
full_causes t b map work = table_causes t ++ ((wrong_buffers t b map work, 5) ∷ (byte_over map, 7) ∷ (clashing t b map, 8) ∷ [])

unfoldable pub full_refusal : List ℕ → List ℕ → List ℕ → List ℕ → ℕ
full_refusal t b map work = first_cause (full_causes t b map work)

-- "It reports restored and still lost"; of 8, "its check and byte are 0", and no other answer has them; counts 0 on refusal
pub record FullAnswer : Type 0 where
  pub refusal : ℕ
  pub restored : ℕ
  pub lost : ℕ
  pub check : ℕ
  pub byte : ℕ

-- a refusal
abbrev pub full_refused : ℕ → FullAnswer
full_refused r = record { refusal = r; restored = 0; lost = 0; check = 0; byte = 0 }

-- by the refusal's number, 0 for none, and the map afterwards
abbrev pub full_answer_at : ℕ → List ℕ → FullAnswer
full_answer_at zero after = record { refusal = 0; restored = tally 2 after; lost = tally 1 after; check = 0; byte = 0 }
full_answer_at (suc r) after = full_refused (suc r)

module _ (t b map work : List ℕ) where
  -- the map afterwards: restored places are marked 2; as it was on refusal
  abbrev pub full_map_after : List ℕ
  full_map_after = elim (eqb (full_refusal t b map work) 0) [ true ↦ solved_map (places t) (checks t) map | false ↦ map ]

  abbrev pub full_answer : FullAnswer
  full_answer = full_answer_at (full_refusal t b map work) full_map_after

  -- the block afterwards: decided places hold their packet, those still lost are zero; after 8 all lost places are zero; else as it was
  abbrev pub full_block_after : List ℕ
  full_block_after = elim (eqb (full_refusal t b map work) 0) [
    | true ↦ joined (solved_block (places t) (size t) (checks t) (packets (size t) (places t) b) map)
    | false ↦
        elim (eqb (full_refusal t b map work) 8) [ true ↦ joined (zero_lost (size t) map (packets (size t) (places t) b)) | false ↦ b ]
  ]

  -- work afterwards: zero after acceptance and after 8; else as it was
  abbrev pub full_work_after : List ℕ
  full_work_after = elim (eqb (full_refusal t b map work) 0) [
    | true ↦ replicate work_words 0
    | false ↦
        elim (eqb (full_refusal t b map work) 8) [ true ↦ replicate work_words 0 | false ↦ work ]
  ]

-- what the code answers
abbrev pub full_answer_of : Result FullyRepaired Refusal → FullAnswer
full_answer_of (Ok r) = record { refusal = 0; restored = r.restored; lost = r.lost; check = 0; byte = 0 }
full_answer_of (Err r) = record { refusal = number_of r; restored = 0; lost = 0; check = check_of r; byte = byte_of r }

-- what the call answers, and what it leaves in block, map and work
pub record Answers (t b map work : List ℕ) (r : Result FullyRepaired Refusal) (b' map' work' : List ℕ) : Type 0 where
  pub report : full_answer_of r ≡ full_answer t b map work
  pub told : told_by r ≡ none
  pub block-is : b' ≡ full_block_after t b map work
  pub map_is : map' ≡ full_map_after t b map work
  pub work-is : work' ≡ full_work_after t b map work

-- a call that none of 1 to 7 refuses
pub record FittingAll (t b map work : List ℕ) : Type 0 where
  pub old : Fitting t b map
  pub room : length work ≡ work_words

-- ---- what may have been sent
-- a codeword of bytes that agrees with the received packets
pub record Possible (t b map w : List ℕ) : Type 0 where
  pub word : IsCodeword t w
  pub agree : Agree t b map w
  pub bytes : All (λ x. x < 256) w

-- "all codewords that agree with the received packets agree there"
abbrev pub OneThere : List ℕ → List ℕ → List ℕ → ℕ → Type 0
OneThere t b map p = (u w : List ℕ) → Possible t b map u → Possible t b map w → part_at (size t) p u ≡ part_at (size t) p w
