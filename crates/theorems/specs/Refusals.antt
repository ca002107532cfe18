-- Refusals of all calls, said in one way: 0 is answered exactly if no cause of the call holds, and each number exactly if its cause
-- holds and none before it in the call's order (`RefusedBy`, table/specs/FirstCause.antt).
use Rattle.std.specs.Prelude.{◌≡◌, refl, List, ◌≢◌, ℕ, zero, suc, length}
use Rattle.std.proofs.Common.{sym, ◌∙◌, subst}
use Rattle.std.proofs.Math.Option.{Option, none, some}
use Rattle.table.specs.FirstCause.{RefusedBy}
use Rattle.table.specs.FirstCauseLaws.{refused-by, first-decides, rest-decides, none-holds}
use Rattle.table.specs.Table.{table_causes, refusal}
use Rattle.table.specs.PacketCall.{packet_causes, packet_refusal}
use Rattle.making.specs.MakingLaws.{make-told}
use Rattle.alist.specs.Alist.{alist_read_causes, alist_read_refusal_at, alist_table, alist_read_refusal, alist_read_answer}
use Rattle.alist.specs.AlistText.{alist_text, alist_write_causes, alist_write_refusal_at, alist_write_refusal, alist_write_answer}
use Rattle.plan.specs.Layout.{plan_causes, plan_refusal}
use Rattle.planning.specs.Planning.{planning_causes, planning_refusal_at, planning_answer, planning_answer_at, planning_refusal}
use Rattle.encoder.specs.Encoding.{encode_causes, encode_refusal_at, encode_answer, encode_answer_at, encode_refusal}
use Rattle.repair.specs.Repair.{repair_causes, repair_outcome, repair_refusal, repair_answer, repair_answer_at}
use Rattle.full.specs.Full.{full_causes, full_refusal, full_answer, full_answer_at, full_map_after}
use Rattle.merge.specs.Merge.{merge_causes, merge_refusal, merge_answer}
use Rattle.merge.proofs.MergeLaws.{refusal-told}
use Rattle.lengthen.specs.Lengthen.{new_causes, lengthen_refusal, lengthen_answer}
use Rattle.lengthen.specs.LengthenLaws.{refusal-told as lengthen-told}
use Rattle.why.specs.Why.{why_causes, why_refusal, why_answer}
use Rattle.why.proofs.WhyLaws.{refusal-told as why-told}
use Rattle.erasure.specs.Offered.{Held, handed_on}
use Rattle.erasure.specs.Restoring.{State, contradicting}
use Rattle.faults.specs.Faults.{Fault}
use Rattle.verify.specs.Verify.{verify_causes, verify_refusal, verify_answer, verify_answer_at}
use Rattle.verify.specs.VerifyLaws.{lowest}

-- 1 to 4
pub table-refusals : (t : List ℕ) → RefusedBy (refusal t) (table_causes t)
table-refusals t = refused-by (table_causes t) refl

-- 2, 5, 10
pub packet-refusals : (n s place len : ℕ) → RefusedBy (packet_refusal n s place len) (packet_causes n s place len)
packet-refusals n s place len = refused-by (packet_causes n s place len) refl

-- 9
pub plan-refusals : (w : List ℕ) → RefusedBy (plan_refusal w) (plan_causes w)
plan-refusals w = refused-by (plan_causes w) refl

-- 1 to 5, as verification answers it
pub verify-refusals : (t b : List ℕ) → RefusedBy (verify_answer t b).refusal (verify_causes t b)
unfolding verify_refusal
verify-refusals t b = subst (λ r. RefusedBy r (verify_causes t b)) (sym (told (verify_refusal t b) (lowest t b))) (refused-by (verify_causes t b) refl)
  where
    told : (r : ℕ) (v : Option Fault) → (verify_answer_at r v).refusal ≡ r
    told zero none = refl
    told zero (some f) = refl
    told (suc r) v = refl

-- 1 to 5, 7, 8, as repair reports it
pub repair-refusals : (t b map : List ℕ) → RefusedBy (repair_answer t b map).refusal (repair_causes t b map)
unfolding repair_refusal
repair-refusals t b map = subst (λ r. RefusedBy r (repair_causes t b map)) (sym (told (repair_refusal t b map) (repair_outcome t b map) (handed_on (repair_refusal t b map) (contradicting t b map)))) (refused-by (repair_causes t b map) refl)
  where
    told : (r : ℕ) (m : State) (f : Option Fault) → (repair_answer_at r m f).refusal ≡ r
    told zero m f = refl
    told (suc r) m f = refl

-- 1 to 5, 7, 8, as full repair reports it
pub full-refusals : (t b map work : List ℕ) → RefusedBy (full_answer t b map work).refusal (full_causes t b map work)
unfolding full_refusal
full-refusals t b map work = subst (λ r. RefusedBy r (full_causes t b map work)) (sym (told (full_refusal t b map work) (full_map_after t b map work))) (refused-by (full_causes t b map work) refl)
  where
    told : (r : ℕ) (after : List ℕ) → (full_answer_at r after).refusal ≡ r
    told zero after = refl
    told (suc r) after = refl

-- 1 to 5, 7, 14, 8, as the reason for a place reports it, whatever is listed
pub why-refusals : (t b map work : List ℕ) (p : ℕ) (reason list : List ℕ) → RefusedBy (why_answer t b map work p reason list).refusal (why_causes t b map work p reason)
unfolding why_refusal
why-refusals t b map work p reason list = subst (λ r. RefusedBy r (why_causes t b map work p reason)) (sym (why-told t b map work p reason list)) (refused-by (why_causes t b map work p reason) refl)

-- 1 to 5, 7, 8, as merging reports it
pub merge-refusals : (t : List ℕ) (one two out : Held) → RefusedBy (merge_answer t one two out).refusal (merge_causes t one two out)
unfolding merge_refusal
merge-refusals t one two out = subst (λ r. RefusedBy r (merge_causes t one two out)) (sym (refusal-told t one two out)) (refused-by (merge_causes t one two out) refl)

-- 1 to 4 of the old table; where it is accepted, 1 to 4 of the new one, 5, 15, 16, 7 and 8, as going on under a longer table reports it: "The old
-- table counts as 01's first"
pub record LengthenRefusals (old new : List ℕ) (carried arrivals : Held) : Type 0 where
  pub old-first : refusal old ≢ 0 → (lengthen_answer old new carried arrivals).refusal ≡ refusal old
  pub then-new : refusal old ≡ 0 → RefusedBy (lengthen_answer old new carried arrivals).refusal (new_causes old new carried arrivals)

pub lengthen-refusals : (old new : List ℕ) (carried arrivals : Held) → LengthenRefusals old new carried arrivals
unfolding lengthen_refusal
lengthen-refusals old new carried arrivals = record {
  old-first = λ n. lengthen-told old new carried arrivals ∙ first-decides (table_causes old) (new_causes old new carried arrivals) n;
  then-new = λ ok. subst (λ r. RefusedBy r (new_causes old new carried arrivals))
      (sym (lengthen-told old new carried arrivals ∙ rest-decides (none-holds (table_causes old) refl ok) (new_causes old new carried arrivals)))
      (refused-by (new_causes old new carried arrivals) refl);
}

-- 1 to 6, as the planner answers it
pub planning-refusals : (t plan_buffer work : List ℕ) → RefusedBy (planning_answer t plan_buffer work).refusal (planning_causes t (length plan_buffer) (length work))
unfolding planning_refusal_at
planning-refusals t plan_buffer work =
    subst (λ r. RefusedBy r (planning_causes t (length plan_buffer) (length work))) (sym (told (planning_refusal t plan_buffer work))) (refused-by (planning_causes t (length plan_buffer) (length work)) refl)
  where
    told : (r : ℕ) → (planning_answer_at r t).refusal ≡ r
    told zero = refl
    told (suc r) = refl

-- 2, then 9, then 5, as the encoder answers it
pub encode-refusals : (w : List ℕ) (s : ℕ) (information block scratch : List ℕ) (limit : ℕ)
    → RefusedBy (encode_answer w s information block scratch limit).refusal (encode_causes w s (length information) (length block) (length scratch))
unfolding encode_refusal_at
encode-refusals w s information block scratch limit =
    subst (λ r. RefusedBy r (encode_causes w s (length information) (length block) (length scratch))) (sym (told (encode_refusal w s information block scratch) _))
    (refused-by (encode_causes w s (length information) (length block) (length scratch)) refl)
  where
    told : (r a : ℕ) → (encode_answer_at r a).refusal ≡ r
    told zero a = refl
    told (suc r) a = refl

-- 12, 13, 2, 3, 5, as reading an alist text answers it
pub read-refusals : (text : List ℕ) (s : ℕ) (buffer : List ℕ) → RefusedBy (alist_read_answer text s buffer).refusal (alist_read_causes text s (length buffer))
unfolding alist_read_refusal_at
read-refusals text s buffer =
    subst (λ r. RefusedBy r (alist_read_causes text s (length buffer))) (sym (make-told (alist_read_refusal text s buffer) (alist_table text s)))
    (refused-by (alist_read_causes text s (length buffer)) refl)

-- 1 to 5, as writing one answers it
pub write-refusals : (t buffer : List ℕ) → RefusedBy (alist_write_answer t buffer).refusal (alist_write_causes t (length buffer))
unfolding alist_write_refusal_at
write-refusals t buffer =
    subst (λ r. RefusedBy r (alist_write_causes t (length buffer))) (sym (make-told (alist_write_refusal t buffer) (alist_text t)))
    (refused-by (alist_write_causes t (length buffer)) refl)
