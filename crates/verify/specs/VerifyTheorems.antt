-- Demand 2 on verification, and the check and byte that C-12 asks for, over the definitions of the call, for every table that is accepted
-- and every block.
use Rattle.std.specs.Prelude.{◌≡◌, refl, true, List, ℕ, ◌*◌, ◌<◌, length, take}
use Rattle.std.proofs.Common.{ap, ◌∙◌, subst, sym}
use Rattle.std.proofs.Math.Option.{some}
use Rattle.faults.proofs.FaultLaws.{none-fails, fails-none, first-fault, fault-first}
use Rattle.faults.specs.Faults.{Fault, FirstFault, every_check}
use Rattle.lists.specs.ListLaws.{all_map}
use Rattle.lists.specs.Lists.{All}
use Rattle.table.specs.Codewords.{IsCodeword}
use Rattle.table.specs.PacketLaws.{packets-length, packets-sized}
use Rattle.table.specs.Packets.{Packets, packets, Codeword as SumsToZero}
use Rattle.table.specs.Table.{places, size, checks, refusal}
use Rattle.table.specs.TableLaws.{accepted}
use Rattle.verify.specs.Verify.{values_of, verify_refusal, verdict, verify_answer}
use Rattle.verify.specs.VerifyLaws.{lowest, verification-is, not-refused, passed-at, failed-at}
use Rattle.std.specs.declared.result.Result.TheVariants.{Ok}
use Rattle.std.specs.declared.option.Option.TheVariants.{None}

-- "verification says that the block is a codeword": if and only if the table is accepted, the block is n·s bytes, and every check sums to zero
pub passes-codeword : (t b : List ℕ) → (verify_answer t b).codeword ≡ true → (refusal t ≡ 0) × IsCodeword t b
passes-codeword t b h =
    let p = passed-at (verify_refusal t b) (lowest t b) h in
    let r = not-refused t b p.0 in
    (r.0, record { size_fits = r.1; sums = all_map (λ c z. z refl) (none-fails every_check (size t) (packets (size t) (places t) b) 0 (checks t) p.1) })

pub codeword-passes : (t b : List ℕ) → refusal t ≡ 0 → IsCodeword t b → verify_answer t b ≡ values_of (Ok None)
codeword-passes t b ok w = verification-is t b ok w.size_fits ∙ ap verdict (fails-none every_check (size t) (packets (size t) (places t) b) 0 (all_map (λ c z e. z) w.sums))

-- "or gives the lowest check that fails", "with that byte"
pub record FailsAt (t b : List ℕ) (f : Fault) : Type 0 where
  pub table : refusal t ≡ 0
  pub size_fits : length b ≡ places t * size t
  -- a byte below s, where the check's sum isn't zero and every lower byte of it is zero
  pub first : FirstFault every_check (size t) (packets (size t) (places t) b) (checks t) f
  -- in plain words: every lower check sums to zero
  pub lower : SumsToZero (size t) (take f.check (checks t)) (packets (size t) (places t) b)

-- the n packets of such a block, and the places of the checks
module _ (t b : List ℕ) (ok : refusal t ≡ 0) (fits : length b ≡ places t * size t) where
  sized : Packets (size t) (packets (size t) (places t) b)
  sized = packets-sized (size t) (places t) b fits

  low : All (λ c. All (λ p. p < length (packets (size t) (places t) b)) c) (checks t)
  low = subst (λ k. All (λ c. All (λ p. p < k) c) (checks t)) (sym (packets-length (size t) (places t) b)) (accepted t ok).low

-- what is given is the lowest ..
pub fails-lowest : (t b : List ℕ) (f : Fault) → (verify_answer t b).fault ≡ some f → FailsAt t b f
fails-lowest t b f h =
    let p = failed-at (verify_refusal t b) (lowest t b) f h in
    let r = not-refused t b p.0 in
    let first = first-fault every_check (size t) (packets (size t) (places t) b) (sized t b r.0 r.1) (checks t) (low t b r.0 r.1) f p.1 in
    record { table = r.0; size_fits = r.1; first = first; lower = all_map (λ c z. z refl) first.lower }

-- .. and the lowest is given
pub lowest-given : (t b : List ℕ) (f : Fault) → refusal t ≡ 0 → length b ≡ places t * size t → FirstFault every_check (size t) (packets (size t) (places t) b) (checks t) f
    → verify_answer t b ≡ verdict (some f)
lowest-given t b f ok fits first = verification-is t b ok fits
    ∙ ap verdict (fault-first every_check (size t) (packets (size t) (places t) b) (sized t b ok fits) (checks t) (low t b ok fits) f first)
