-- What repair and the calls that go on with it report (document 01, "Repair and the other calls"; document 02, C-12).
use Rattle.std.specs.Prelude.{ℕ}
use Rattle.std.proofs.Math.Option.{Option, none}
use Rattle.std.specs.declared.result.Result.{Result}
use Rattle.std.specs.declared.result.Result.TheVariants.{Ok, Err}
use Rattle.faults.specs.Faults.{Fault, fault_told}
use Rattle.refusals.specs.Refusals.{number_of, check_of, byte_of}
use Rattle.refusals.specs.declared.Refusal.{Refusal}
use Rattle.report.specs.declared.Repaired.{Repaired}

-- "Reported: restored, still lost, and additions"; counts 0 on refusal; the check that fails and its byte, both 0 but for refusal 8
pub record RepairAnswer : Type 0 where
  pub refusal : ℕ
  pub restored : ℕ
  pub lost : ℕ
  pub additions : ℕ
  pub check : ℕ
  pub byte : ℕ

-- accepted: the counts
abbrev pub accepted_with : ℕ → ℕ → ℕ → RepairAnswer
accepted_with restored lost additions = record { refusal = 0; restored = restored; lost = lost; additions = additions; check = 0; byte = 0 }

-- a refusal: counts 0
abbrev pub refused_with : ℕ → ℕ → ℕ → RepairAnswer
refused_with r check byte = record { refusal = r; restored = 0; lost = 0; additions = 0; check = check; byte = byte }

-- the papers' numbers of an answer
abbrev pub repair_answer_of : Result Repaired Refusal → RepairAnswer
repair_answer_of (Ok r) = accepted_with r.restored r.lost r.additions
repair_answer_of (Err r) = refused_with (number_of r) (check_of r) (byte_of r)

-- the fault that an answer hands on, which tells apart the two causes with number 8: packets that contradict hand on the lowest check
-- that fails, and no other refusal hands one on
abbrev pub told_by : {T : Type 0} → Result T Refusal → Option Fault
told_by (Ok x) = none
told_by (Err r) = fault_told r
