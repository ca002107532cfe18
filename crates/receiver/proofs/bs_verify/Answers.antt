-- `bs_verify` meets its contract.
use Rattle.std.specs.Prelude.{◌≡◌}
use Rattle.std.proofs.Common.{refl, ap, ◌∙◌}
use Rattle.faults.specs.Faults.{check_of, byte_of, fault_told}
use Rattle.refusals.specs.Refusals.{check_of as check_in, byte_of as byte_in}
use Rattle.refusals.specs.declared.Refusal.{Refusal}
use Rattle.refusals.specs.declared.Refusal.TheVariants.{Contradiction}
use Rattle.verify.specs.Verify.{Values}
use Rattle.receiver.specs.Answers.{one_if}
use Rattle.receiver.proofs.bs_verify.Goals as goal

-- what a refusal hands on, number by number
told-check : (r : Refusal) → check_in r ≡ check_of (fault_told r)
told-check (Contradiction f) = refl
told-check _ = refl

told-byte : (r : Refusal) → byte_in r ≡ byte_of (fault_told r)
told-byte (Contradiction f) = refl
told-byte _ = refl

pub returns-in-Err : goal.returns-in-Err
returns-in-Err c =
    let e = c.in-Err.ensures in
    let t = c.told-fault.ensures in
    record {
      refusal = c.number.ensures ∙ ap (λ (x : Values). x.refusal) e;
      codeword = ap (λ (x : Values). one_if x.codeword) e;
      check = t.check ∙ told-check c.in-Err.refusal ∙ ap (λ (x : Values). check_of x.fault) e;
      byte = t.byte ∙ told-byte c.in-Err.refusal ∙ ap (λ (x : Values). byte_of x.fault) e;
    }
