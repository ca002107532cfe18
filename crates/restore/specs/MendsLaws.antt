-- What the core tells of a contradiction: whether there is one, its check and its byte.
use Rattle.std.specs.Prelude.{◌≡◌, List, ℕ}
use Rattle.std.specs.declared.result.Result.{Result}
use Rattle.std.proofs.Common.{ap, ◌∙◌}
use Rattle.refusals.specs.declared.Fault.{Fault as FaultFound}
use Rattle.report.specs.declared.Repaired.{Repaired}
use Rattle.erasure.specs.ContradictionLaws.{told}
use Rattle.erasure.specs.Restoring.{outcome, contradicting, agreeing, Counts}
use Rattle.faults.specs.Faults.{check_of, byte_of}
use Rattle.restore.specs.Mending.{counts_of, Mends}

module _ (t b map : List ℕ) (r : Result Repaired FaultFound) (b' map' : List ℕ) (done : Mends t b map r b' map') where
  pub agrees-told : (counts_of r).agrees ≡ agreeing t b map
  agrees-told = ap (λ (x : Counts). x.agrees) done.report ∙ (told (contradicting t b map) map (outcome t b map)).0

  pub check-told : (counts_of r).check ≡ check_of (contradicting t b map)
  check-told = ap (λ (x : Counts). x.check) done.report ∙ (told (contradicting t b map) map (outcome t b map)).1.0

  pub byte-told : (counts_of r).byte ≡ byte_of (contradicting t b map)
  byte-told = ap (λ (x : Counts). x.byte) done.report ∙ (told (contradicting t b map) map (outcome t b map)).1.1
