-- The cause of a refusal is known from its number and from what it hands on: of the two causes with number 8 one hands on a fault. So the
-- contracts of the calls, which say both, leave no choice of the cause.
use Rattle.std.specs.Prelude.{◌≡◌, ℕ}
use Rattle.std.proofs.Common.{ap, ◌∙◌}
use Rattle.std.proofs.Math.Path.{ap₂}
use Rattle.std.proofs.Math.Bool.{false}
use Rattle.std.proofs.Math.Option.{Option}
use Rattle.std.specs.declared.option.Option.{Option as Found}
use Rattle.std.specs.declared.result.Result.{Result}
use Rattle.std.specs.declared.result.Result.TheVariants.{Ok, Err}
use Rattle.faults.specs.Faults.{Fault, fault_told}
use Rattle.refusals.specs.Refusals.{number_of}
use Rattle.refusals.specs.declared.Fault.{Fault as FaultFound}
use Rattle.refusals.specs.declared.Refusal.{Refusal}
use Rattle.refusals.specs.declared.Refusal.TheVariants.{NoCodeword}
use Rattle.verify.specs.Verify.{Values}
use Rattle.verify.specs.VerifyLaws.{values-tell}

-- the cause of an answer that is refused
cause : Result (Found FaultFound) Refusal → Refusal
cause (Ok f) = NoCodeword
cause (Err r) = r

pub cause-told : (r q : Refusal) → number_of r ≡ number_of q → fault_told r ≡ fault_told q → r ≡ q
unfolding cause
cause-told r q n f = ap cause (values-tell (Err r) (Err q) (ap₂ (λ (x : ℕ) (y : Option Fault). record { refusal = x; codeword = false; fault = y }) n f))
