-- The week as one theorem: planning, then encoding at any size, then loss, then repair, then verification (demand 2, "From what arrives of
-- such a block, .."). The planner has the table t, the receiver the same matrix at the size that was sent, `at_size s t`: at the table's own
-- size that is t.
use Rattle.std.specs.Prelude.{◌≡◌, refl, Bool, false, List, ℕ, ◌*◌, ◌≤◌, ltb, length}
use Rattle.std.proofs.Common.{ap, ◌∙◌, subst, le-ltb}
use Rattle.lists.specs.Lists.{any_of, All, All.nil, All.cons}
use Rattle.table.specs.AnySize.{at-own-size, accepted-at}
use Rattle.table.specs.Codewords.{IsCodeword}
use Rattle.table.specs.TableLaws.{within}
use Rattle.table.specs.Table.{most_bytes, places, size, at_size, refusal}
use Rattle.planning.specs.Planning.{planning_refusal}
use Rattle.planning.specs.PlanningLaws.{accepted-planning}
use Rattle.encoder.specs.Encoding.{encode_block_after}
use Rattle.erasure.specs.Offered.{Fitting, Agree}
use Rattle.erasure.specs.Restoring.{Largest}
use Rattle.erasure.proofs.Largest.{largest-exists}
use Rattle.repair.specs.Repair.{repair_refusal, repair_answer, repair_block_after}
use Rattle.repair.proofs.RepairTheorems.{repairing}
use Rattle.verify.specs.Verify.{values_of, verify_answer}
use Rattle.verify.specs.VerifyTheorems.{codeword-passes}
use Rattle.std.specs.declared.option.Option.TheVariants.{None}
use Rattle.std.specs.declared.result.Result.TheVariants.{Ok}
use Rattle.theorems.specs.Demands.{handed, ToTheLastStep, TheOneBlock, planning-then-encoding, encoding-codeword}
use Rattle.theorems.specs.Restoring.{Restores, restores}

-- what arrives of the block that was sent: a map with a byte a place, 0 received and 1 lost, and received packets as they were sent
pub record Arrives (u sent block map : List ℕ) : Type 0 where
  pub block-long : length block ≡ places u * size u
  pub map-long : length map ≡ places u
  pub map-bytes : All (λ x. x ≤ 1) map
  pub as-sent : Agree u block map sent

-- what the week comes to, by the plan p of the table t and, at the receiver, by the table u: the block that was sent, and what arrived of it
pub record Week (t u p : List ℕ) (s : ℕ) (information block_buffer scratch_buffer : List ℕ) (limit : ℕ) (sent block map : List ℕ) : Type 0 where
  -- encoding: accepted, and what was sent is the one block, which verification passes
  pub encoded : TheOneBlock t p s information block_buffer scratch_buffer limit
  pub sent-passes : verify_answer u sent ≡ values_of (Ok None)
  -- repair: accepted; it restores every lost packet outside the largest stopping set L (there is one: `largest-exists`), each as it was
  -- sent, and none inside; received packets are untouched
  pub repair-accepted : repair_refusal u block map ≡ 0
  pub repaired : (L : ℕ → Bool) → Largest u map L → Restores u block map sent L
  -- where nothing stays lost, the block is the one that was sent, and verification passes it
  pub whole : (repair_answer u block map).lost ≡ 0 → (repair_block_after u block map ≡ sent) × (verify_answer u (repair_block_after u block map) ≡ values_of (Ok None))

no-byte-over : {map : List ℕ} → All (λ x. x ≤ 1) map → any_of (ltb 1) map ≡ false
no-byte-over nil = refl
no-byte-over (cons {x = x} h a) = rw (le-ltb 1 x h) (no-byte-over a)

module _ (t plan_buffer work : List ℕ) (s : ℕ) (information block_buffer scratch_buffer : List ℕ) (limit : ℕ) where
  -- the block that is sent: encoded by the plan as the planner wrote it
  abbrev pub sent : List ℕ
  sent = encode_block_after (handed t plan_buffer work) s information block_buffer scratch_buffer limit

  -- the table with packets of the size that is sent
  table-ok : planning_refusal t plan_buffer work ≡ 0 → ToTheLastStep t (handed t plan_buffer work) s information block_buffer scratch_buffer limit → refusal (at_size s t) ≡ 0
  table-ok planned lent = accepted-at s t (accepted-planning t (length plan_buffer) (length work) planned).0 (within most_bytes s lent.some_bytes lent.few_bytes)

  -- what arrives is not refused
  pub arrives-fitting : (block map : List ℕ)
      → planning_refusal t plan_buffer work ≡ 0
      → ToTheLastStep t (handed t plan_buffer work) s information block_buffer scratch_buffer limit
      → Arrives (at_size s t) sent block map
      → Fitting (at_size s t) block map
  arrives-fitting block map planned lent arrives = record { table = table-ok planned lent; block = arrives.block-long; map-length = arrives.map-long; map-bytes = no-byte-over arrives.map-bytes }

  -- planning is accepted; the buffers have the right lengths, and the limit means all steps; received packets are as they were sent
  pub the-week : (block map : List ℕ)
      → planning_refusal t plan_buffer work ≡ 0
      → ToTheLastStep t (handed t plan_buffer work) s information block_buffer scratch_buffer limit
      → Arrives (at_size s t) sent block map
      → Week t (at_size s t) (handed t plan_buffer work) s information block_buffer scratch_buffer limit sent block map
  the-week block map planned lent arrives = record {
    encoded = planning-then-encoding t plan_buffer work planned s information block_buffer scratch_buffer limit lent;
    sent-passes = passes;
    repair-accepted = (repairing (at_size s t) block map sent fits word arrives.as-sent).not-refused;
    repaired = mended;
    whole = λ h. let same = all_back h in (same, ap (verify_answer (at_size s t)) same ∙ passes);
  }
    where
      word : IsCodeword (at_size s t) sent
      word = encoding-codeword t plan_buffer work planned s information block_buffer scratch_buffer limit lent

      passes : verify_answer (at_size s t) sent ≡ values_of (Ok None)
      passes = codeword-passes (at_size s t) sent (table-ok planned lent) word

      fits : Fitting (at_size s t) block map
      fits = arrives-fitting block map planned lent arrives

      mended : (L : ℕ → Bool) → Largest (at_size s t) map L → Restores (at_size s t) block map sent L
      mended = restores (at_size s t) block map sent fits word arrives.as-sent

      all_back : (repair_answer (at_size s t) block map).lost ≡ 0 → repair_block_after (at_size s t) block map ≡ sent
      all_back h = let L = largest-exists (at_size s t) map in (mended L.0 L.1).whole h

-- one table at both ends, with its own size
pub own-week : (t plan_buffer work information block_buffer scratch_buffer : List ℕ) (limit : ℕ) (block map : List ℕ)
    → planning_refusal t plan_buffer work ≡ 0
    → ToTheLastStep t (handed t plan_buffer work) (size t) information block_buffer scratch_buffer limit
    → Arrives t (sent t plan_buffer work (size t) information block_buffer scratch_buffer limit) block map
    → Week t t (handed t plan_buffer work) (size t) information block_buffer scratch_buffer limit (sent t plan_buffer work (size t) information block_buffer scratch_buffer limit) block map
own-week t plan_buffer work information block_buffer scratch_buffer limit block map planned lent =
    subst (λ u. Arrives u (sent t plan_buffer work (size t) information block_buffer scratch_buffer limit) block map
    → Week t u (handed t plan_buffer work) (size t) information block_buffer scratch_buffer limit (sent t plan_buffer work (size t) information block_buffer scratch_buffer limit) block map)
    (at-own-size t) (the-week t plan_buffer work (size t) information block_buffer scratch_buffer limit block map planned lent)
