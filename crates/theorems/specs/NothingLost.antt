-- Where nothing is lost: what verification passes repair accepts without blame, and where repair refuses with 8 both hand on the same check
-- and byte.
use Rattle.std.specs.Prelude.{◌≡◌, refl, true, false, List, [], ◌∷◌, ◌⊎◌, ◌↔◌, ℕ, suc}
use Rattle.std.proofs.Common.{sym, ap, ◌∙◌, inl, inr, arith, ext_get_or}
use Rattle.std.proofs.Math.Option.{Option, none, some}
use Rattle.suspects.specs.Blame.{blamed}
use Rattle.suspects.proofs.BlameLaws.{agreed-none}
use Rattle.lists.specs.Tests.{by_bool, by_opt}
use Rattle.erasure.specs.Offered.{handed_on, Fitting}
use Rattle.erasure.specs.LostLaws.{lost_in, no-lost, none-lost}
use Rattle.erasure.proofs.OutcomeLaws.{tally-lost}
use Rattle.erasure.specs.Restoring.{ready, zero_lost, none_lost, contradiction, tally, contradicting, agreeing}
use Rattle.erasure.proofs.RestoringLaws.{restoring_none}
use Rattle.erasure.proofs.Values.{zero_lost-length, zero_lost-kept}
use Rattle.faults.specs.Faults.{Fault, no_fault, check_of, byte_of, failing, every_check}
use Rattle.repair.specs.Repair.{repair_outcome, repair_refusal, repair_answer_at, repair_answer}
use Rattle.repair.specs.RepairLaws.{agreed-refusal, blamed-refusal, contradicted-refusal}
use Rattle.table.specs.Codewords.{zero_sum}
use Rattle.table.specs.Packets.{packets}
use Rattle.table.specs.Table.{places, size, checks}
use Rattle.verify.specs.Verify.{verdict, verify_answer}
use Rattle.verify.specs.VerifyLaws.{lowest, verification-is}

-- ---- with nothing lost no turn is taken, and every check is judged
none-ready : (map : List ℕ) (cs : List (List ℕ)) → lost_in map ≡ 0 → ready map cs ≡ none
none-ready map [] h = refl
none-ready map (c ∷ cs) h = rw (none-lost map c h, ready) (none-ready map cs h)

all-judged : (map : List ℕ) (s : ℕ) (b : List (List ℕ)) (i : ℕ) (cs : List (List ℕ)) → lost_in map ≡ 0 → failing (none_lost map) s b i cs ≡ failing every_check s b i cs
all-judged map s b i [] h = refl
all-judged map s b i (c ∷ cs) h = by_bool (zero_sum s b c)
    (λ z. rw (none-lost map c h, z, failing) (all-judged map s b (suc i) cs h))
    (λ z. rw (none-lost map c h, z, failing))

kept : (s : ℕ) (map : List ℕ) (b : List (List ℕ)) → lost_in map ≡ 0 → zero_lost s map b ≡ b
kept s map b h = ext_get_or [] _ _ (zero_lost-length s map b) (λ p l. zero_lost-kept s map b p (no-lost map h p))

same-fault : (t b map : List ℕ) → lost_in map ≡ 0 → contradicting t b map ≡ lowest t b
same-fault t b map h =
    ap (contradiction (size t) (checks t)) (restoring_none (places t) (size t) (checks t) _ (none-ready map (checks t) h)
    ∙ ap (λ (x : List (List ℕ)). record { block = x; map = map; adds = 0 }) (kept (size t) map (packets (size t) (places t) b) h))
    ∙ all-judged map (size t) (packets (size t) (places t) b) 0 (checks t) h

-- ---- the two calls
pub record NothingLost (t b map : List ℕ) : Type 0 where
  -- a codeword is what the old repair accepts ..
  pub old : agreeing t b map ≡ (verify_answer t b).codeword
  -- .. and what repair accepts without blaming a place
  pub passes : ((verify_answer t b).codeword ≡ true) ↔ ((repair_refusal t b map ≡ 0) × (blamed t b map ≡ none))
  -- else repair refuses with 8, with verification's check and byte, or it blames a place
  pub fails : (verify_answer t b).codeword ≡ false → (repair_refusal t b map ≡ 8) ⊎ ((p : ℕ) × ((repair_refusal t b map ≡ 0) × (blamed t b map ≡ some p)))
  pub handed-on : repair_refusal t b map ≡ 8 → ((repair_answer t b map).check ≡ check_of (verify_answer t b).fault) × ((repair_answer t b map).byte ≡ byte_of (verify_answer t b).fault)

-- what verification says of what fails
said : (f : Option Fault) → ((verdict f).codeword ≡ no_fault f) × ((verdict f).fault ≡ f)
said none = (refl, refl)
said (some f) = (refl, refl)

pub nothing-lost : (t b map : List ℕ) → Fitting t b map → tally 1 map ≡ 0 → NothingLost t b map
nothing-lost t b map fits h = record {
  old = old-is;
  passes = (
    (λ e. let calm = old-is ∙ e in (agreed-refusal t b map fits calm, agreed-none t b map calm)),
    (λ r. by_bool (agreeing t b map)
        (λ calm. sym old-is ∙ calm)
        (λ bad. let z : ◌≡◌ {A = ℕ} 0 8 = sym r.0 ∙ contradicted-refusal t b map fits bad r.1 in absurd (omega arith))),
  );
  fails = λ e. by_opt (blamed t b map)
      (λ p one. inr (p, (blamed-refusal t b map fits p one, one)))
      (λ nobody. inl (contradicted-refusal t b map fits (old-is ∙ e) nobody));
  handed-on = λ eight. ((told eight).0 ∙ ap check_of fault-is, (told eight).1 ∙ ap byte_of fault-is);
}
  where
    same : contradicting t b map ≡ lowest t b
    same = same-fault t b map (sym (tally-lost map) ∙ h)

    verdict-is : verify_answer t b ≡ verdict (lowest t b)
    verdict-is = verification-is t b fits.table fits.block

    old-is : agreeing t b map ≡ (verify_answer t b).codeword
    old-is = ap no_fault same ∙ sym (said (lowest t b)).0 ∙ sym (ap (λ v. v.codeword) verdict-is)

    fault-is : contradicting t b map ≡ (verify_answer t b).fault
    fault-is = same ∙ sym (said (lowest t b)).1 ∙ sym (ap (λ v. v.fault) verdict-is)

    told : repair_refusal t b map ≡ 8 → ((repair_answer t b map).check ≡ check_of (contradicting t b map)) × ((repair_answer t b map).byte ≡ byte_of (contradicting t b map))
    told e = (
      ap (λ r. (repair_answer_at r (repair_outcome t b map) (handed_on r (contradicting t b map))).check) e,
      ap (λ r. (repair_answer_at r (repair_outcome t b map) (handed_on r (contradicting t b map))).byte) e,
    )
