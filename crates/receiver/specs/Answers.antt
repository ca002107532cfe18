-- The answers of the library for C, as the definitions' records and values.
use Rattle.std.specs.Prelude.{Bool, true, false, ℕ}
use Rattle.full.specs.Full.{FullAnswer}
use Rattle.merge.specs.Merge.{MergeAnswer}
use Rattle.report.specs.Report.{RepairAnswer}
use Rattle.receiver.specs.declared.FullRepair.{FullRepair}
use Rattle.receiver.specs.declared.Merge.{Merge}
use Rattle.receiver.specs.declared.Reason.{Reason}
use Rattle.receiver.specs.declared.Repair.{Repair}
use Rattle.why.specs.Why.{WhyAnswer}

-- C has numbers: 1 or 0 for whether
abbrev pub one_if : Bool → ℕ
one_if true = 1
one_if false = 0

abbrev pub repaired : Repair → RepairAnswer
repaired r = record { refusal = r.refusal; restored = r.restored; lost = r.lost; additions = r.additions; check = r.check; byte = r.byte }

abbrev pub fully_repaired : FullRepair → FullAnswer
fully_repaired r = record { refusal = r.refusal; restored = r.restored; lost = r.lost; check = r.check; byte = r.byte }

abbrev pub merged : Merge → MergeAnswer
merged r = record {
  refusal = r.refusal;
  agreed = r.agreed;
  single = r.single;
  silent = r.silent;
  clash = r.clash;
  restored = r.restored;
  lost = r.lost;
  additions = r.additions;
  check = r.check;
  byte = r.byte;
}

abbrev pub reasoned : Reason → WhyAnswer
reasoned r = record {
  refusal = r.refusal;
  kind = r.kind;
  length = r.length;
  restored = r.restored;
  lost = r.lost;
  check = r.check;
  byte = r.byte;
}
