-- Demand 2 on repair, the check and byte that C-12 asks for, and C-17's bad packet, over the definitions of the call: for every table that is
-- accepted, every block and every pattern of loss.
use Rattle.std.specs.Prelude.{◌≡◌, refl, true, false, cond, List, ◌≢◌, ◌⊎◌, ◌↔◌, ℕ, zero, suc, ◌+◌, ◌-◌, ◌<◌, ◌≤◌, eqb, length, get_or, set, replicate}
use Rattle.std.proofs.Common.{sym, ap, ap₂, ◌∙◌, subst, true≢false, inl, inr, ⊎_elim, arith, ne_eqb, length-set, get_or-set_same, get_or-set_other}
use Rattle.std.proofs.Math.Option.{Option, none, some}
use Rattle.suspects.specs.Blame.{lost_too, blamed, Suspect, OnlySuspect}
use Rattle.suspects.proofs.BlameLaws.{TwoSuspects, no-only, none_only, two-only, agreed-none, contradicted-only, blamed-contradicts, blamed-is, is-blamed, lost_too-bytes, lost_too-count, lost_too-known, mark-three, three-restored, three-lost, stays-without, suspect-changes, blamed-alike}
use Rattle.erasure.proofs.OfferedLaws.{none-handed, bytes-all, byte_at, agree-there, sized, low}
use Rattle.erasure.specs.Offered.{handed_on, Fitting, Agree}
use Rattle.erasure.proofs.Largest.{stays-lost, largest-same}
use Rattle.erasure.specs.LostLaws.{not-lost, is_lost_lem}
use Rattle.erasure.proofs.OldBytes.{old-bytes, old-bytes-cleared}
use Rattle.erasure.proofs.OldRepair.{RestoredBy, part-is, old-repair, cleared-kept, cleared-zero, word-agrees, word-values}
use Rattle.erasure.proofs.OutcomeLaws.{tally-restored, tally-two}
use Rattle.erasure.specs.Restoring.{State, Counts, Largest, AgreeThere, lost_places, none_lost, contradiction, tally, outcome, contradicting, agreeing, counts_if, block_if, map_if, is_lost}
use Rattle.erasure.proofs.RestoringLaws.{restoring-map, restoring-same, restoring-mark}
use Rattle.erasure.proofs.Tally.{none-restored}
use Rattle.faults.proofs.FaultLaws.{some-fault, first-fault, fault-first}
use Rattle.faults.specs.Faults.{Fault, no_fault, FirstFault}
use Rattle.lists.specs.ListLaws.{all_map, all_of, filter_same}
use Rattle.lists.specs.Lists.{All}
use Rattle.lists.specs.Tests.{eqb-true, eqb-false, by_bool, by_opt}
use Rattle.report.specs.Report.{RepairAnswer, accepted_with, refused_with}
use Rattle.repair.specs.Repair.{believed, marked, repair_outcome, repair_refusal, repair_answer_at, repair_answer, repair_block_after, repair_map_after}
use Rattle.repair.specs.RepairLaws.{agreed-refusal, blamed-refusal, contradicted-refusal, accepted-fits, contradicted-fits, block-accepted, block-contradicted, map-accepted, map-refused}
use Rattle.table.specs.Codewords.{IsCodeword}
use Rattle.table.specs.PacketCall.{part_at}
use Rattle.table.specs.PacketLaws.{packet-at}
use Rattle.table.specs.Packets.{packets, joined, packet_sum}
use Rattle.table.specs.Table.{places, size, checks}

-- ---- the old repair, "the repair without this rule"
-- an answer of repair by what the core tells
abbrev pub answer_by : Counts → RepairAnswer
answer_by r = record { refusal = cond r.agrees 0 8; restored = r.restored; lost = r.lost; additions = r.additions; check = r.check; byte = r.byte }

abbrev pub old_answer : List ℕ → List ℕ → List ℕ → RepairAnswer
old_answer t b map = answer_by (counts_if (contradicting t b map) map (outcome t b map))

-- the call answers as the old repair does, and leaves what it leaves
pub record AsOld (t b map : List ℕ) : Type 0 where
  pub answer : repair_answer t b map ≡ old_answer t b map
  pub block : repair_block_after t b map ≡ block_if (agreeing t b map) t b map
  pub marks : repair_map_after t b map ≡ map_if (agreeing t b map) t b map

-- ---- what is promised
-- an accepted repair that blames nobody, whatever was received
pub record AcceptedRepair (t b map : List ℕ) : Type 0 where
  -- "Accepted blocks keep their answer"
  pub as-old : AsOld t b map
  -- received packets and their marks are untouched; a lost place stays lost or is marked as restored; places still lost hold zero bytes and
  -- are the largest stopping set among the lost places; every check without a lost place sums to zero
  pub restored_by : RestoredBy t b map (repair_block_after t b map) (repair_map_after t b map)
  -- restored are the places marked 2, still lost those marked 1, and together the places that were lost
  pub restored : (repair_answer t b map).restored ≡ tally 2 (repair_map_after t b map)
  pub lost : (repair_answer t b map).lost ≡ tally 1 (repair_map_after t b map)
  pub counts : (repair_answer t b map).restored + (repair_answer t b map).lost ≡ tally 1 map
  -- where nothing stays lost, the block is a codeword
  pub whole : (repair_answer t b map).lost ≡ 0 → IsCodeword t (repair_block_after t b map)

-- an accepted repair that blames place p. That p is the wrong one is not promised: a right packet can be blamed
pub record BlamedRepair (t b map : List ℕ) (p : ℕ) : Type 0 where
  -- the old repair contradicts, and p is the one received place that, "marked lost too, the old repair restores .. and meets no contradiction"
  pub contradicted : agreeing t b map ≡ false
  pub only : OnlySuspect t b map p
  -- "answer with that repair and mark the place 3"
  pub answer : repair_answer t b map ≡ old_answer t b (lost_too map p)
  pub block : repair_block_after t b map ≡ block_if true t b (lost_too map p)
  pub marks : repair_map_after t b map ≡ set (map_if true t b (lost_too map p)) p 3
  pub three : get_or (repair_map_after t b map) p 0 ≡ 3
  -- accepted, so without a check and its byte
  pub no-refusal : ((repair_answer t b map).refusal ≡ 0) × (((repair_answer t b map).check ≡ 0) × ((repair_answer t b map).byte ≡ 0))
  -- "every check without a lost place sums to zero"
  pub sums : All (λ c. length (lost_places (repair_map_after t b map) c) ≡ 0 → packet_sum (size t) (packets (size t) (places t) (repair_block_after t b map)) c ≡ replicate (size t) 0) (checks t)
  -- "received packets change at that place alone", and so do their marks ..
  pub received : (q : ℕ) → q < places t → q ≢ p → get_or map q 0 ≡ 0 → (part_at (size t) q (repair_block_after t b map) ≡ part_at (size t) q b) × (get_or (repair_map_after t b map) q 0 ≡ 0)
  -- .. and there they do change
  pub changed : part_at (size t) p (repair_block_after t b map) ≢ part_at (size t) p b
  -- a lost place stays lost or is marked as restored
  pub lost : (q : ℕ) → get_or map q 0 ≡ 1 → (get_or (repair_map_after t b map) q 0 ≡ 1) ⊎ (get_or (repair_map_after t b map) q 0 ≡ 2)
  -- places still lost hold zero bytes
  pub zeroed : (q : ℕ) → q < places t → get_or (repair_map_after t b map) q 0 ≡ 1 → part_at (size t) q (repair_block_after t b map) ≡ replicate (size t) 0
  -- what stays lost is the largest stopping set among the places that were lost
  pub stays : Largest t map (is_lost (repair_map_after t b map))
  -- "The place counts as restored", beside those marked 2
  pub restored : (repair_answer t b map).restored ≡ suc (tally 2 (repair_map_after t b map))
  pub still : (repair_answer t b map).lost ≡ tally 1 (repair_map_after t b map)
  pub counts : (repair_answer t b map).restored + (repair_answer t b map).lost ≡ suc (tally 1 map)
  -- where nothing stays lost, the block is a codeword
  pub whole : (repair_answer t b map).lost ≡ 0 → IsCodeword t (repair_block_after t b map)

-- repair of packets that come from the codeword w
pub record Repairing (t b map w : List ℕ) : Type 0 where
  pub not-refused : repair_refusal t b map ≡ 0
  -- the old repair accepts, and nobody is blamed
  pub agrees : agreeing t b map ≡ true
  pub nobody-blamed : blamed t b map ≡ none
  -- block and map are the old repair's
  pub block : repair_block_after t b map ≡ joined (outcome t b map).block
  pub marks : repair_map_after t b map ≡ (outcome t b map).map
  -- every restored packet is the codeword's, and every received one
  pub values : (p : ℕ) → p < places t → get_or (repair_map_after t b map) p 0 ≢ 1 → part_at (size t) p (repair_block_after t b map) ≡ part_at (size t) p w

-- the check and byte that repair reports
abbrev pub reported : List ℕ → List ℕ → List ℕ → Fault
reported t b map = record { check = (repair_answer t b map).check; byte = (repair_answer t b map).byte }

-- packets that contradict
pub record Contradicted (t b map : List ℕ) : Type 0 where
  -- come from no codeword
  pub no-codeword : (w : List ℕ) → IsCodeword t w → Agree t b map w → ⊥
  -- and not "exactly one received place exists" that could be blamed for it: none does, or more than one
  pub suspected : ((p : ℕ) → Suspect t b map p → ⊥) ⊎ TwoSuspects t b map
  -- "Otherwise 8 stays"
  pub as-old : AsOld t b map
  pub received : (p : ℕ) → p < places t → get_or map p 0 ≡ 0 → part_at (size t) p (repair_block_after t b map) ≡ part_at (size t) p b
  pub zeroed : (p : ℕ) → p < places t → get_or map p 0 ≡ 1 → part_at (size t) p (repair_block_after t b map) ≡ replicate (size t) 0
  pub map-kept : repair_map_after t b map ≡ map
  -- what is lost after restoring is the largest stopping set among the lost places
  pub stays : Largest t map (is_lost (outcome t b map).map)
  -- the check that is reported "is the lowest that fails after restoring, among those then without a lost place": it has none, its sum
  -- isn't zero at the byte and is zero below it, and every lower check without a lost place sums to zero
  pub first : FirstFault (none_lost (outcome t b map).map) (size t) (outcome t b map).block (checks t) (reported t b map)

-- ---- the old repair's answer
-- what is told where it accepts, and where it contradicts
answer-agreed : (g f : Option Fault) (map : List ℕ) (m : State) → no_fault f ≡ true → tally 1 map - tally 1 m.map ≡ tally 2 m.map
    → repair_answer_at 0 m (handed_on 0 g) ≡ answer_by (counts_if f map m)
answer-agreed g none map m h e = ap (λ k. accepted_with k (tally 1 m.map) m.adds) (sym e)
answer-agreed g (some f) map m h e = absurd (true≢false (sym h))

answer-contradicted : (f : Option Fault) (map : List ℕ) (m k : State) → no_fault f ≡ false → repair_answer_at 8 k (handed_on 8 f) ≡ answer_by (counts_if f map m)
answer-contradicted none map m k h = absurd (true≢false h)
answer-contradicted (some f) map m k h = refl

module _ (t b map : List ℕ) (f : Fitting t b map) where
  -- nobody is blamed: the answer is the old repair's
  module _ (nobody : blamed t b map ≡ none) where
    plain-outcome : repair_outcome t b map ≡ outcome t b map
    plain-outcome = ap (λ o. outcome t b (believed o map)) nobody

    pub plainly : AsOld t b map
    plainly = by_bool (agreeing t b map)
        (λ calm. let ok = agreed-refusal t b map f calm in record {
          answer = ap₂ (λ r m. repair_answer_at r m (handed_on r (contradicting t b map))) ok plain-outcome
              ∙ answer-agreed (contradicting t b map) (contradicting t b map) map (outcome t b map) calm (tally-two t b map (bytes-all map f.map-bytes));
          block = block-accepted t b map ok ∙ ap (λ m. joined m.block) plain-outcome ∙ sym (ap (λ v. block_if v t b map) calm);
          marks = map-accepted t b map ok ∙ ap₂ (λ o m. marked o m.map) nobody plain-outcome ∙ sym (ap (λ v. map_if v t b map) calm);
        })
        (λ bad. let eight = contradicted-refusal t b map f bad nobody in record {
          answer = ap (λ r. repair_answer_at r (repair_outcome t b map) (handed_on r (contradicting t b map))) eight
              ∙ answer-contradicted (contradicting t b map) map (outcome t b map) (repair_outcome t b map) bad;
          block = block-contradicted t b map eight ∙ sym (ap (λ v. block_if v t b map) bad);
          marks = map-refused t b map 8 eight refl ∙ sym (ap (λ v. map_if v t b map) bad);
        })

  -- the old repair accepts
  pub accepted-plainly : agreeing t b map ≡ true → AcceptedRepair t b map
  accepted-plainly calm = record {
    as-old = old;
    restored_by = by;
    restored = restored-is;
    lost = lost-is;
    counts = ap₂ ◌+◌ restored-is lost-is ∙ by.counts ∙ (let z = tally-restored map ∙ none-restored (bytes-all map f.map-bytes) in omega arith);
    whole = λ h. by.whole (sym lost-is ∙ h);
  }
    where
      old : AsOld t b map
      old = plainly (agreed-none t b map calm)

      ok : repair_refusal t b map ≡ 0
      ok = agreed-refusal t b map f calm

      map_is : repair_map_after t b map ≡ (outcome t b map).map
      map_is = old.marks ∙ ap (λ v. map_if v t b map) calm

      block-is : repair_block_after t b map ≡ joined (outcome t b map).block
      block-is = old.block ∙ ap (λ v. block_if v t b map) calm

      by : RestoredBy t b map (repair_block_after t b map) (repair_map_after t b map)
      by = rw (block-is, map_is) (old-repair t b map f.table f.block f.map-length calm)

      told : repair_answer t b map ≡ accepted_with (tally 2 (outcome t b map).map) (tally 1 (outcome t b map).map) (outcome t b map).adds
      told = ap₂ (λ r m. repair_answer_at r m (handed_on r (contradicting t b map))) ok (plain-outcome (agreed-none t b map calm))

      restored-is : (repair_answer t b map).restored ≡ tally 2 (repair_map_after t b map)
      restored-is = ap (λ r. r.restored) told ∙ sym (ap (tally 2) map_is)

      lost-is : (repair_answer t b map).lost ≡ tally 1 (repair_map_after t b map)
      lost-is = ap (λ r. r.lost) told ∙ sym (ap (tally 1) map_is)

  -- place p is blamed
  module _ (p : ℕ) (one : blamed t b map ≡ some p) where
    ok : repair_refusal t b map ≡ 0
    ok = blamed-refusal t b map f p one

    it : Suspect t b map p
    it = (blamed-is t b map p one).it-is

    without-outcome : repair_outcome t b map ≡ outcome t b (lost_too map p)
    without-outcome = ap (λ o. outcome t b (believed o map)) one

    without-bytes : All (λ x. x ≤ 1) (lost_too map p)
    without-bytes = bytes-all (lost_too map p) (lost_too-bytes map p f.map-bytes)

    without-long : length (lost_too map p) ≡ places t
    without-long = length-set map p 1 ∙ f.map-length

    -- what that repair promises
    second : RestoredBy t b (lost_too map p) (joined (outcome t b (lost_too map p)).block) (outcome t b (lost_too map p)).map
    second = old-repair t b (lost_too map p) f.table f.block without-long it.agrees

    told : repair_answer t b map ≡ accepted_with (tally 2 (outcome t b (lost_too map p)).map) (tally 1 (outcome t b (lost_too map p)).map) (outcome t b (lost_too map p)).adds
    told = ap₂ (λ r m. repair_answer_at r m (handed_on r (contradicting t b map))) ok without-outcome

    block-is : repair_block_after t b map ≡ joined (outcome t b (lost_too map p)).block
    block-is = block-accepted t b map ok ∙ ap (λ m. joined m.block) without-outcome

    map_is : repair_map_after t b map ≡ set (outcome t b (lost_too map p)).map p 3
    map_is = map-accepted t b map ok ∙ ap₂ (λ o m. marked o m.map) one without-outcome

    three-there : get_or (repair_map_after t b map) p 0 ≡ 3
    three-there = ap (λ l. get_or l p 0) map_is ∙ get_or-set_same (outcome t b (lost_too map p)).map p 3 0
        (subst (λ k. p < k) (sym (restoring-map (places t) (size t) (checks t) _ ∙ without-long)) it.inside)

    -- p is restored by that repair
    two-there : get_or (outcome t b (lost_too map p)).map p 0 ≡ 2
    two-there = restoring-mark (places t) (size t) (checks t) _ p (ap (λ x. eqb x 1) (get_or-set_same map p 1 0 (subst (λ k. p < k) (sym f.map-length) it.inside))) it.restored

    -- the marks of other places are that repair's, and so are all lost places, p being restored
    others : (q : ℕ) → q ≢ p → get_or (repair_map_after t b map) q 0 ≡ get_or (outcome t b (lost_too map p)).map q 0
    others q n = ap (λ l. get_or l q 0) map_is ∙ get_or-set_other (outcome t b (lost_too map p)).map p q 3 0 n

    lost-alike : (q : ℕ) → is_lost (outcome t b (lost_too map p)).map q ≡ is_lost (repair_map_after t b map) q
    lost-alike q = sym (ap (λ l. is_lost l q) map_is ∙ mark-three (outcome t b (lost_too map p)).map p q it.restored)

    -- a place with another byte than p's is another place
    apart : (l : List ℕ) (q v w : ℕ) → get_or l q 0 ≡ v → get_or l p 0 ≡ w → v ≢ w → q ≢ p
    apart l q v w e k ne z = ne (sym e ∙ ap (λ x. get_or l x 0) z ∙ k)

    pub accepted-by-blame : BlamedRepair t b map p
    accepted-by-blame = record {
      contradicted = blamed-contradicts t b map p one;
      only = blamed-is t b map p one;
      answer = told ∙ answer-agreed none (contradicting t b (lost_too map p)) (lost_too map p) (outcome t b (lost_too map p)) it.agrees (tally-two t b (lost_too map p) without-bytes);
      block = block-is;
      marks = map_is;
      three = three-there;
      no-refusal = (ap (λ r. r.refusal) told, (ap (λ r. r.check) told, ap (λ r. r.byte) told));
      sums = rw block-is (all_map (λ c s e. s (ap length (filter_same (is_lost (outcome t b (lost_too map p)).map) (is_lost (repair_map_after t b map)) (all_of lost-alike c)) ∙ e)) second.sums);
      received = λ q h n e.
          let r = second.known q h (ap (λ x. eqb x 1) (get_or-set_other map p q 1 0 n ∙ e)) in
          (ap (part_at (size t) q) block-is ∙ r.0, others q n ∙ r.1 ∙ get_or-set_other map p q 1 0 n ∙ e);
      changed = λ e. suspect-changes t b map p f.table f.block f.map-length (blamed-contradicts t b map p one) it
          (sym (part-is t b (lost_too map p) f.table f.block p it.inside) ∙ ap (part_at (size t) p) (sym block-is) ∙ e ∙ sym (packet-at (size t) (places t) b p it.inside));
      lost = λ q e.
          let n = apart map q 1 0 e it.received (λ z. omega arith) in
          ⊎_elim (λ k. inl (others q n ∙ k)) (λ k. inr (others q n ∙ k)) (second.lost q (ap (λ x. eqb x 1) (get_or-set_other map p q 1 0 n ∙ e)));
      zeroed = λ q h e. ap (part_at (size t) q) block-is ∙ second.zeroed q h (lost-alike q ∙ is_lost_lem (repair_map_after t b map) q e);
      stays = largest-same t map (is_lost (outcome t b (lost_too map p)).map) (is_lost (repair_map_after t b map)) lost-alike (stays-without t b map p f.map-length it);
      restored = ap (λ r. r.restored) told ∙ three-restored (outcome t b (lost_too map p)).map p two-there ∙ ap (λ l. suc (tally 2 l)) (sym map_is);
      still = ap (λ r. r.lost) told ∙ sym (ap (tally 1) map_is ∙ three-lost (outcome t b (lost_too map p)).map p two-there);
      counts = ap (λ r. r.restored + r.lost) told ∙ second.counts
          ∙ (let z = tally-restored (lost_too map p) ∙ none-restored without-bytes in
          let k = lost_too-count map p (subst (λ x. p < x) (sym f.map-length) it.inside) it.received in omega arith);
      whole = λ h. subst (IsCodeword t) (sym block-is) (second.whole (sym (ap (λ r. r.lost) told) ∙ h));
    }

  -- ---- the rule, where the old repair contradicts
  module _ (bad : agreeing t b map ≡ false) where
    -- "If exactly one received place exists .., answer with that repair and mark the place 3"
    pub exactly-one : (p : ℕ) → OnlySuspect t b map p → BlamedRepair t b map p
    exactly-one p o = accepted-by-blame p (is-blamed t b map p bad o)

    -- "Otherwise 8 stays"
    pub eight-stays : ((p : ℕ) → Suspect t b map p → ⊥) ⊎ TwoSuspects t b map → repair_refusal t b map ≡ 8
    eight-stays s = contradicted-refusal t b map f bad (contradicted-only t b map bad ∙ ⊎_elim (none_only t b map) (two-only t b map) s)

  -- ---- a 3 in the map
  -- no byte of the map is above 2 after the old repair
  bytes_after : (l : List ℕ) → All (λ x. x ≤ 1) l → length l ≡ places t → agreeing t b l ≡ true → (q : ℕ) → get_or (outcome t b l).map q 0 ≢ 3
  bytes_after l a long calm q e = by_bool (is_lost l q)
      (λ z. ⊎_elim (λ k. clash 1 (sym k ∙ e) (omega arith)) (λ k. clash 2 (sym k ∙ e) (omega arith)) (by.lost q z))
      (λ z. let k = byte_at a q in clash (get_or l q 0) (sym (restoring-same (places t) (size t) (checks t) _ q z) ∙ e) (omega arith))
    where
      by : RestoredBy t b l (joined (outcome t b l).block) (outcome t b l).map
      by = old-repair t b l f.table f.block long calm

      clash : (v : ℕ) → v ≡ 3 → v ≤ 2 → ⊥
      clash v e h = omega arith

  -- a place is marked 3 just if it is blamed
  pub marked-three : (q : ℕ) → (get_or (repair_map_after t b map) q 0 ≡ 3) ↔ (blamed t b map ≡ some q)
  marked-three q = (
    (λ e. by_opt (blamed t b map)
        (λ p one. by_bool (eqb q p)
        (λ z. one ∙ ap some (sym (eqb-true q p z)))
        (λ z. absurd (bytes_after (lost_too map p) (without-bytes p one) (without-long p one) (it p one).agrees q (sym (others p one q (eqb-false q p z)) ∙ e))))
        (λ nobody. by_bool (agreeing t b map)
        (λ calm. absurd (bytes_after map (bytes-all map f.map-bytes) f.map-length calm q (sym (ap (λ l. get_or l q 0) ((plainly nobody).marks ∙ ap (λ v. map_if v t b map) calm)) ∙ e)))
        (λ bad. let k = byte_at (bytes-all map f.map-bytes) q in
        let z : get_or map q 0 ≡ 3 = sym (ap (λ l. get_or l q 0) ((plainly nobody).marks ∙ ap (λ v. map_if v t b map) bad)) ∙ e in absurd (omega arith)))),
    (λ one. three-there q one),
  )

-- an accepted call: the old repair accepts, or a place is blamed ..
pub accepted-either : (t b map : List ℕ) → repair_refusal t b map ≡ 0 → AcceptedRepair t b map ⊎ ((p : ℕ) × BlamedRepair t b map p)
accepted-either t b map h = let r = accepted-fits t b map h in
    ⊎_elim (λ calm. inl (accepted-plainly t b map r.0 calm)) (λ o. inr (o.0, accepted-by-blame t b map r.0 o.0 o.1)) r.1

-- .. and never both
pub never_both : (t b map : List ℕ) (p : ℕ) → AcceptedRepair t b map → BlamedRepair t b map p → ⊥
never_both t b map p a k =
    let it = k.only.it-is in
    let z : ◌≡◌ {A = ℕ} 3 0 = sym k.three ∙ (a.restored_by.known p it.inside (not-lost map p it.received)).1 ∙ it.received in
    omega arith

-- ---- with a codeword behind it
module _ (t b map w : List ℕ) (f : Fitting t b map) (word : IsCodeword t w) (agree : Agree t b map w) where
  there : AgreeThere t b map w
  there = agree-there t b map f w agree

  calm : agreeing t b map ≡ true
  calm = word-agrees t b map f.table f.block w word there

  old : AsOld t b map
  old = plainly t b map f (agreed-none t b map calm)

  block-as-old : repair_block_after t b map ≡ joined (outcome t b map).block
  block-as-old = old.block ∙ ap (λ v. block_if v t b map) calm

  map-as-old : repair_map_after t b map ≡ (outcome t b map).map
  map-as-old = old.marks ∙ ap (λ v. map_if v t b map) calm

  pub repairing : Repairing t b map w
  repairing = record {
    not-refused = agreed-refusal t b map f calm;
    agrees = calm;
    nobody-blamed = agreed-none t b map calm;
    block = block-as-old;
    marks = map-as-old;
    values = λ p h e. ap (part_at (size t) p) block-as-old ∙ word-values t b map f.table f.block w word there p h
        (by_bool (is_lost (outcome t b map).map p) (λ z. absurd (e (ap (λ l. get_or l p 0) map-as-old ∙ eqb-true _ 1 z))) (λ z. z));
  }

-- ---- refusal 8
pub contradicted-repair : (t b map : List ℕ) → repair_refusal t b map ≡ 8 → Contradicted t b map
contradicted-repair t b map h = record {
  no-codeword = λ w word agree. true≢false (sym (repairing t b map w fits word agree).agrees ∙ bad);
  suspected = no-only t b map (sym (contradicted-only t b map bad) ∙ nobody);
  as-old = plainly t b map fits nobody;
  received = λ p k e. ap (part_at (size t) p) (block-contradicted t b map h) ∙ cleared-kept t b map fits.table fits.block p k (not-lost map p e);
  zeroed = λ p k e. ap (part_at (size t) p) (block-contradicted t b map h) ∙ cleared-zero t b map fits.table fits.block p k (is_lost_lem map p e);
  map-kept = map-refused t b map 8 h refl;
  stays = stays-lost t b map fits.map-length;
  first = first-fault (none_lost (outcome t b map).map) (size t) (outcome t b map).block (sized t b map fits) (checks t) (low t b map fits) (reported t b map) is-reported;
}
  where
    fits : Fitting t b map
    fits = (contradicted-fits t b map h).0

    bad : agreeing t b map ≡ false
    bad = (contradicted-fits t b map h).1.0

    nobody : blamed t b map ≡ none
    nobody = (contradicted-fits t b map h).1.1

    -- what contradicts is reported
    is-reported : contradicting t b map ≡ some (reported t b map)
    is-reported = some-fault (contradicting t b map) bad ∙ rw h

-- and the lowest is reported: where a check without a lost place fails after restoring and nobody is blamed, 8 hands on that one and its byte
pub lowest-reported : (t b map : List ℕ) → Fitting t b map → blamed t b map ≡ none
    → (f : Fault) → FirstFault (none_lost (outcome t b map).map) (size t) (outcome t b map).block (checks t) f → repair_answer t b map ≡ refused_with 8 f.check f.byte
lowest-reported t b map fits nobody f first =
    let is : contradicting t b map ≡ some f = fault-first (none_lost (outcome t b map).map) (size t) (outcome t b map).block (sized t b map fits) (checks t) (low t b map fits) f first in
    (plainly t b map fits nobody).answer ∙ ap (λ x. answer_by (counts_if x map (outcome t b map))) is

-- no other answer has a check or a byte
pub none-reported : (t b map : List ℕ) → repair_refusal t b map ≢ 8 → ((repair_answer t b map).check ≡ 0) × ((repair_answer t b map).byte ≡ 0)
none-reported t b map ne = rw (none-handed (repair_refusal t b map) (contradicting t b map) (ne_eqb (repair_refusal t b map) 8 ne)) (at (repair_refusal t b map))
  where
    at : (r : ℕ) → ((repair_answer_at r (repair_outcome t b map) none).check ≡ 0) × ((repair_answer_at r (repair_outcome t b map) none).byte ≡ 0)
    at zero = (refl, refl)
    at (suc r) = (refl, refl)

-- ---- "Old bytes at lost places never count": blocks with the same received packets come to the same answer, block and map
pub record Alike (t b c map : List ℕ) : Type 0 where
  pub answer : repair_answer t b map ≡ repair_answer t c map
  pub block : repair_block_after t b map ≡ repair_block_after t c map
  pub marks : repair_map_after t b map ≡ repair_map_after t c map

module _ (t b c map : List ℕ) (fits : Fitting t b map) (long : length c ≡ length b) (agree : Agree t b map c) where
  same : AgreeThere t b map c
  same = agree-there t b map fits c agree

  fits-too : Fitting t c map
  fits-too = record { table = fits.table; block = long ∙ fits.block; map-length = fits.map-length; map-bytes = fits.map-bytes }

  contradict-alike : contradicting t b map ≡ contradicting t c map
  contradict-alike = ap (contradiction (size t) (checks t)) (old-bytes t b c map same)

  agrees-alike : agreeing t b map ≡ agreeing t c map
  agrees-alike = ap no_fault contradict-alike

  who : blamed t b map ≡ blamed t c map
  who = blamed-alike t b c map same

  -- by whichever map
  believed-same : (o : Option ℕ) → AgreeThere t b (believed o map) c
  believed-same none p h e = same p h e
  believed-same (some q) p h e = same p h (lost_too-known map q p e)

  outcome-alike : repair_outcome t b map ≡ repair_outcome t c map
  outcome-alike = ap (λ o. outcome t b (believed o map)) who ∙ old-bytes t b c (believed (blamed t c map) map) (believed-same (blamed t c map))

  -- the same refusal, which is none or 8
  record Both (r : ℕ) : Type 0 where
    one : repair_refusal t b map ≡ r
    other : repair_refusal t c map ≡ r

  refused-alike : Both 0 ⊎ Both 8
  refused-alike = by_bool (agreeing t b map)
      (λ y. inl (record { one = agreed-refusal t b map fits y; other = agreed-refusal t c map fits-too (sym agrees-alike ∙ y) }))
      (λ n. by_opt (blamed t b map)
      (λ p e. inl (record { one = blamed-refusal t b map fits p e; other = blamed-refusal t c map fits-too p (sym who ∙ e) }))
      (λ e. inr (record { one = contradicted-refusal t b map fits n e; other = contradicted-refusal t c map fits-too (sym agrees-alike ∙ n) (sym who ∙ e) })))

  answer-alike : (r : ℕ) → Both r → repair_answer t b map ≡ repair_answer t c map
  answer-alike r k = ap (λ x. repair_answer_at x (repair_outcome t b map) (handed_on x (contradicting t b map))) k.one
      ∙ ap₂ (λ m f. repair_answer_at r m (handed_on r f)) outcome-alike contradict-alike
      ∙ sym (ap (λ x. repair_answer_at x (repair_outcome t c map) (handed_on x (contradicting t c map))) k.other)

  pub old-bytes-never-count : Alike t b c map
  old-bytes-never-count = ⊎_elim
      (λ k. record {
        answer = answer-alike 0 k;
        block = block-accepted t b map k.one ∙ ap (λ m. joined m.block) outcome-alike ∙ sym (block-accepted t c map k.other);
        marks = map-accepted t b map k.one ∙ ap₂ (λ o m. marked o m.map) who outcome-alike ∙ sym (map-accepted t c map k.other);
      })
      (λ k. record {
        answer = answer-alike 8 k;
        block = block-contradicted t b map k.one ∙ ap joined (old-bytes-cleared t b c map same) ∙ sym (block-contradicted t c map k.other);
        marks = map-refused t b map 8 k.one refl ∙ sym (map-refused t c map 8 k.other refl);
      })
      refused-alike
