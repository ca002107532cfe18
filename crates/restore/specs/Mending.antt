-- What the core tells, and what it leaves in block and map.
use Rattle.std.specs.Prelude.{◌≡◌, true, false, List, ℕ}
use Rattle.std.specs.declared.result.Result.{Result}
use Rattle.std.specs.declared.result.Result.TheVariants.{Ok, Err}
use Rattle.refusals.specs.declared.Fault.{Fault as FaultFound}
use Rattle.report.specs.declared.Repaired.{Repaired}
use Rattle.erasure.specs.Restoring.{Counts, outcome, contradicting, agreeing, counts_if, block_if, map_if}

-- what the code tells
abbrev pub counts_of : Result Repaired FaultFound → Counts
counts_of (Ok r) = record { agrees = true; restored = r.restored; lost = r.lost; additions = r.additions; check = 0; byte = 0 }
counts_of (Err f) = record { agrees = false; restored = 0; lost = 0; additions = 0; check = f.check; byte = f.byte }

-- what the core tells, and what it leaves in block and map
pub record Mends (t b map : List ℕ) (r : Result Repaired FaultFound) (b' map' : List ℕ) : Type 0 where
  pub report : counts_of r ≡ counts_if (contradicting t b map) map (outcome t b map)
  pub block-is : b' ≡ block_if (agreeing t b map) t b map
  pub map_is : map' ≡ map_if (agreeing t b map) t b map
