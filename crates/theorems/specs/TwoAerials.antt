-- Two aerials over the calls (document 02, C-19): two listeners to one sent codeword, each with the call of repair alone, and both with the call
-- of merging; and the same of the block that planning and then encoding gives.
use Rattle.std.specs.Prelude.{◌≡◌, false, List, ◌≢◌, ℕ, ◌*◌, ◌<◌, length, get_or}
use Rattle.std.proofs.Common.{ap, ◌∙◌}
use Rattle.erasure.specs.Offered.{Held, Fitting, Agree}
use Rattle.erasure.specs.Restoring.{outcome, is_lost}
use Rattle.lists.specs.Tests.{by_bool, eqb-true}
use Rattle.merge.specs.Merge.{merge_after, FittingThree}
use Rattle.merge.proofs.MergeTheorems.{OneSent, one-sent}
use Rattle.repair.specs.Repair.{repair_map_after}
use Rattle.repair.proofs.RepairTheorems.{repairing}
use Rattle.table.specs.Codewords.{IsCodeword}
use Rattle.table.specs.PacketCall.{part_at}
use Rattle.table.specs.Table.{places, size, at_size}
use Rattle.planning.specs.Planning.{planning_refusal}
use Rattle.theorems.specs.Demands.{handed, ToTheLastStep, encoding-codeword}
use Rattle.theorems.specs.Week.{Arrives, sent, arrives-fitting}

-- "Two listeners to one sent codeword, both right where they heard, never clash, and together leave no place lost that either alone would
-- receive or restore", by the call of repair; each as it was sent
pub record TwoAerials (t : List ℕ) (one two out : Held) (w : List ℕ) : Type 0 where
  pub together : OneSent t one two out w
  pub first : (p : ℕ) → p < places t → get_or (repair_map_after t one.block one.map) p 0 ≢ 1
      → (get_or (merge_after t one two out).map p 0 ≢ 1) × (part_at (size t) p (merge_after t one two out).block ≡ part_at (size t) p w)
  pub second : (p : ℕ) → p < places t → get_or (repair_map_after t two.block two.map) p 0 ≢ 1
      → (get_or (merge_after t one two out).map p 0 ≢ 1) × (part_at (size t) p (merge_after t one two out).block ≡ part_at (size t) p w)

-- what repair alone doesn't leave lost, the old repair doesn't
known_alone : (t b map w : List ℕ) → Fitting t b map → IsCodeword t w → Agree t b map w → (p : ℕ) → get_or (repair_map_after t b map) p 0 ≢ 1 → is_lost (outcome t b map).map p ≡ false
known_alone t b map w f word right p ne = by_bool (is_lost (outcome t b map).map p)
    (λ z. absurd (ne (ap (λ l. get_or l p 0) (repairing t b map w f word right).marks ∙ eqb-true (get_or (outcome t b map).map p 0) 1 z)))
    (λ z. z)

pub two-aerials : (t : List ℕ) (one two out : Held) (w : List ℕ) → FittingThree t one two out → IsCodeword t w
    → Agree t one.block one.map w → Agree t two.block two.map w → TwoAerials t one two out w
two-aerials t one two out w f word right1 right2 = record {
  together = sent-to-both;
  first = λ p h ne. let k = sent-to-both.first-kept p h (known_alone t one.block one.map w f.first word right1 p ne) in (k, sent-to-both.values p h k);
  second = λ p h ne. let k = sent-to-both.second-kept p h (known_alone t two.block two.map w f.second word right2 p ne) in (k, sent-to-both.values p h k);
}
  where
    sent-to-both : OneSent t one two out w
    sent-to-both = one-sent t one two out f w word right1 right2

-- the week with two receivers: planned, encoded to the last step at any size, and heard by both
pub two-aerials-week : (t plan_buffer work : List ℕ) (s : ℕ) (information block_buffer scratch_buffer : List ℕ) (limit : ℕ) (one two out : Held)
    → planning_refusal t plan_buffer work ≡ 0
    → ToTheLastStep t (handed t plan_buffer work) s information block_buffer scratch_buffer limit
    → Arrives (at_size s t) (sent t plan_buffer work s information block_buffer scratch_buffer limit) one.block one.map
    → Arrives (at_size s t) (sent t plan_buffer work s information block_buffer scratch_buffer limit) two.block two.map
    → length out.block ≡ places (at_size s t) * size (at_size s t) → length out.map ≡ places (at_size s t)
    → TwoAerials (at_size s t) one two out (sent t plan_buffer work s information block_buffer scratch_buffer limit)
two-aerials-week t plan_buffer work s information block_buffer scratch_buffer limit one two out planned lent first second bytes marks =
    two-aerials (at_size s t) one two out (sent t plan_buffer work s information block_buffer scratch_buffer limit)
    (record {
      first = arrives-fitting t plan_buffer work s information block_buffer scratch_buffer limit one.block one.map planned lent first;
      second = arrives-fitting t plan_buffer work s information block_buffer scratch_buffer limit two.block two.map planned lent second;
      block-length = bytes;
      map-length = marks;
    })
    (encoding-codeword t plan_buffer work planned s information block_buffer scratch_buffer limit lent) first.as-sent second.as-sent
