-- What a part of the call comes to: the repair with place p marked lost too, which is marked 3 afterwards.
use Rattle.std.specs.Prelude.{◌≡◌, List, ℕ, set}
use Rattle.std.proofs.Math.Option.{none}
use Rattle.suspects.specs.Blame.{lost_too}
use Rattle.erasure.specs.Restoring.{tally, outcome}
use Rattle.report.specs.Report.{repair_answer_of, told_by, accepted_with}
use Rattle.std.specs.declared.result.Result.{Result}
use Rattle.refusals.specs.declared.Refusal.{Refusal}
use Rattle.report.specs.declared.Repaired.{Repaired}
use Rattle.table.specs.Packets.{joined}

pub record Without (t b map : List ℕ) (p : ℕ) (r : Result Repaired Refusal) (b' map' : List ℕ) : Type 0 where
  pub report : repair_answer_of r ≡ (let m = outcome t b (lost_too map p) in accepted_with (tally 2 m.map) (tally 1 m.map) m.adds)
  pub told : told_by r ≡ none
  pub block-is : b' ≡ joined (outcome t b (lost_too map p)).block
  pub map_is : map' ≡ set (outcome t b (lost_too map p)).map p 3
