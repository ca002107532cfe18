-- Verification (document 01, "Repair and the other calls"): "says that the block is a codeword, or gives the lowest check that
-- fails", by document 02, C-12, "with that byte": the lowest of its sum that isn't zero. Checks and bytes are numbered from 0.
use Rattle.std.specs.Prelude.{◌≡◌, ◌⊎◌, Bool, true, false, List, [], ◌∷◌, ◌++◌, ℕ, zero, suc, ◌*◌, length}
use Rattle.std.proofs.Math.Option.{Option, none, some}
use Rattle.std.specs.declared.option.Option.{Option as Found}
use Rattle.std.specs.declared.result.Result.{Result}
use Rattle.std.specs.declared.result.Result.TheVariants.{Ok, Err}
use Rattle.refusals.specs.Refusals.{number_of}
use Rattle.refusals.specs.declared.Fault.{Fault as FaultFound}
use Rattle.refusals.specs.declared.Refusal.{Refusal}
use Rattle.faults.specs.Faults.{Fault, failing, every_check, fault_found, fault_told}
use Rattle.table.specs.Codewords.{zero_sum}
use Rattle.table.specs.FirstCause.{first_cause, wrong_length}
use Rattle.table.specs.Packets.{packets}
use Rattle.table.specs.Table.{places, size, checks, table_causes}

-- the papers' number and values of an answer: the refusal, 0 for none; whether the block is a codeword; the lowest check that
-- fails and its byte, if one does
pub record Values : Type 0 where
  pub refusal : ℕ
  pub codeword : Bool
  pub fault : Option Fault

abbrev pub refused_with : ℕ → Values
refused_with r = record { refusal = r; codeword = false; fault = none }

abbrev pub verdict : Option Fault → Values
verdict none = record { refusal = 0; codeword = true; fault = none }
verdict (some f) = record { refusal = 0; codeword = false; fault = some f }

-- those of what the code says
abbrev pub values_of : Result (Found FaultFound) Refusal → Values
values_of (Ok f) = verdict (fault_found f)
values_of (Err r) = record { refusal = number_of r; codeword = false; fault = fault_told r }

-- ---- the call: table t and block b of any length and content
-- the causes in their order, 1 to 5; 5: the block isn't n·s bytes
abbrev pub verify_causes : List ℕ → List ℕ → List (Bool × ℕ)
verify_causes t b = table_causes t ++ ((wrong_length (length b) (places t * size t), 5) ∷ [])

unfoldable pub verify_refusal : List ℕ → List ℕ → ℕ
verify_refusal t b = first_cause (verify_causes t b)

-- by the refusal's number, 0 for none
abbrev pub verify_answer_at : ℕ → Option Fault → Values
verify_answer_at zero v = verdict v
verify_answer_at (suc r) v = refused_with (suc r)

abbrev pub verify_answer : List ℕ → List ℕ → Values
verify_answer t b = verify_answer_at (verify_refusal t b) (failing every_check (size t) (packets (size t) (places t) b) 0 (checks t))

-- r says of check c, over packets b of s bytes, whether it is judged: if not, it doesn't count or sums to zero
pub record Judges (s : ℕ) (b : List (List ℕ)) (counts : List ℕ → Bool) (c : List ℕ) (r : Bool) : Type 0 where
  pub judged : r ≡ true → counts c ≡ true
  pub spared : r ≡ false → (counts c ≡ false) ⊎ (zero_sum s b c ≡ true)
