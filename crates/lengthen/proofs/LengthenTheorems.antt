-- What C-22 promises of every call, over its definitions: accepted, contradicted, refused, and what doesn't count.
use Rattle.std.specs.Prelude.{◌≡◌, refl, false, List, ◌≢◌, ◌⊎◌, ℕ, zero, suc, ◌+◌, ◌*◌, ◌<◌, ◌≤◌, ltb, length, get_or, take, replicate}
use Rattle.std.proofs.Common.{sym, ap, ap₂, ◌∙◌, true≢false, ⊎_elim, arith, ne_eqb, ext_get_or, get_or-take, length-take-le}
use Rattle.std.proofs.Math.Option.{none, some}
use Rattle.entering.specs.EnteredLaws.{parts-long, mark-at, entered-part, entered-zero}
use Rattle.entering.specs.Entering.{Entry, entry, mark_of, packet_of, carried_mark, entry_at}
use Rattle.entering.specs.EntryLaws.{carried-old, carried-new, entry_known, entry-arrived, entry-missing, entry-alike}
use Rattle.erasure.specs.LostLaws.{is_lost_lem}
use Rattle.erasure.specs.Offered.{Held, Agree, handed_on, wrong_lengths, byte_over}
use Rattle.erasure.proofs.OfferedLaws.{none-handed, lengths-fit}
use Rattle.erasure.proofs.OldRepair.{RestoredBy, old-repair, word-agrees}
use Rattle.erasure.proofs.OutcomeLaws.{outcome-length, outcome-sized, tally-fewer}
use Rattle.erasure.specs.Restoring.{State, tally, none_lost, is_lost, outcome, contradicting, agreeing}
use Rattle.faults.proofs.FaultLaws.{some-fault, first-fault}
use Rattle.faults.specs.Faults.{Fault, FirstFault}
use Rattle.lengthen.specs.Lengthen.{lengthen_answer_at, start, lengthen_outcome, lengthen_fault, lengthen_refusal, lengthen_answer, lengthen_after, calm, LengthenFitting}
use Rattle.lengthen.specs.LengthenLaws.{agreed-refusal, contradicted-refusal, accepted-fits, contradicted-fits, after-accepted, after-contradicted, after-refused, start-block, start-map, entered-there}
use Rattle.lists.specs.Lists.{All, any_of}
use Rattle.lists.specs.Numbers.{each_same}
use Rattle.lists.specs.Tests.{by_bool, side}
use Rattle.longer.specs.LongerLaws.{lengthens-facts}
use Rattle.report.specs.Report.{RepairAnswer, refused_with}
use Rattle.table.specs.Codewords.{IsCodeword}
use Rattle.table.specs.PacketCall.{part_at}
use Rattle.table.specs.Packets.{joined}
use Rattle.table.specs.Table.{places, size, checks}
use Rattle.table.specs.TableLaws.{accepted}

-- ---- what is promised
-- an accepted call, whatever was received
pub record AcceptedLengthening (old new : List ℕ) (carried arrivals : Held) : Type 0 where
  -- "An arrival at a known place is ignored, so its mark 0 or 2 stays", and so does its packet
  pub known : (p : ℕ) → p < places old → get_or carried.map p 0 ≢ 1
      → (get_or (lengthen_after old new carried arrivals).map p 0 ≡ get_or carried.map p 0) × (part_at (size new) p (lengthen_after old new carried arrivals).block ≡ part_at (size new) p carried.block)
  -- "new places start as lost, new arrivals are entered as 0", also at old places that are lost
  pub arrived : (p : ℕ) → p < places new → carried_mark (places old) carried.map p ≡ 1 → get_or arrivals.map p 0 ≡ 0
      → (get_or (lengthen_after old new carried arrivals).map p 0 ≡ 0) × (part_at (size new) p (lengthen_after old new carried arrivals).block ≡ part_at (size new) p arrivals.block)
  -- what hasn't arrived stays lost or is restored
  pub missing : (p : ℕ) → p < places new → carried_mark (places old) carried.map p ≡ 1 → get_or arrivals.map p 0 ≢ 0
      → (get_or (lengthen_after old new carried arrivals).map p 0 ≡ 1) ⊎ (get_or (lengthen_after old new carried arrivals).map p 0 ≡ 2)
  -- "and the old repair goes on without C-17's rule"
  pub restored_by : RestoredBy new (start old new carried arrivals).block (start old new carried arrivals).map (lengthen_after old new carried arrivals).block (lengthen_after old new carried arrivals).map
  -- "The reported counts are this call's alone": restored and still lost were lost as entered, and the marks of 2 grew by the restored
  pub counts : (lengthen_answer old new carried arrivals).restored + (lengthen_answer old new carried arrivals).lost ≡ tally 1 (start old new carried arrivals).map
  pub alone : (lengthen_answer old new carried arrivals).restored + tally 2 (start old new carried arrivals).map ≡ tally 2 (lengthen_after old new carried arrivals).map
  pub still : (lengthen_answer old new carried arrivals).lost ≡ tally 1 (lengthen_after old new carried arrivals).map
  -- without a check and its byte
  pub no-fault : ((lengthen_answer old new carried arrivals).check ≡ 0) × ((lengthen_answer old new carried arrivals).byte ≡ 0)
  -- where nothing stays lost, the block is a codeword of the new table
  pub whole : (lengthen_answer old new carried arrivals).lost ≡ 0 → IsCodeword new (lengthen_after old new carried arrivals).block

-- the check and byte that are reported
abbrev pub reported : List ℕ → List ℕ → Held → Held → Fault
reported old new carried arrivals = record { check = (lengthen_answer old new carried arrivals).check; byte = (lengthen_answer old new carried arrivals).byte }

-- packets that contradict
pub record ContradictedLengthening (old new : List ℕ) (carried arrivals : Held) : Type 0 where
  -- counts 0; check and byte are the old repair's
  pub answer : lengthen_answer old new carried arrivals ≡ refused_with 8 (reported old new carried arrivals).check (reported old new carried arrivals).byte
  pub first : FirstFault (none_lost (lengthen_outcome old new carried arrivals).map) (size new) (lengthen_outcome old new carried arrivals).block (checks new) (reported old new carried arrivals)
  -- "with 8 the map stays as then entered", and the block's known packets too; lost places are zero
  pub marks : (p : ℕ) → p < places new → get_or (lengthen_after old new carried arrivals).map p 0 ≡ mark_of (entry_at (size new) (places old) carried arrivals p)
  pub packets : (p : ℕ) → p < places new → part_at (size new) p (lengthen_after old new carried arrivals).block ≡ packet_of (size new) (entry_at (size new) (places old) carried arrivals p)
  pub zeroed : (p : ℕ) → p < places new → get_or (lengthen_after old new carried arrivals).map p 0 ≡ 1 → part_at (size new) p (lengthen_after old new carried arrivals).block ≡ replicate (size new) 0
  -- no codeword of the new table agrees with what is carried as known and with what has arrived
  pub no-codeword : (w : List ℕ) → IsCodeword new w → ((p : ℕ) → p < places old → is_lost carried.map p ≡ false → part_at (size new) p carried.block ≡ part_at (size new) p w)
      → Agree new arrivals.block arrivals.map w → ⊥

-- ---- the proofs
module _ (old new : List ℕ) (carried arrivals : Held) where
  abbrev b : List ℕ
  b = (start old new carried arrivals).block

  abbrev map : List ℕ
  map = (start old new carried arrivals).map

  -- what place p comes to, with its mark and packet
  mark-is : (p : ℕ) → p < places new → get_or map p 0 ≡ mark_of (entry_at (size new) (places old) carried arrivals p)
  mark-is = mark-at (size new) (places old) (places new) carried arrivals

  part-is : LengthenFitting old new carried arrivals → (p : ℕ) → p < places new → part_at (size new) p b ≡ packet_of (size new) (entry_at (size new) (places old) carried arrivals p)
  part-is f = entered-part (size new) (places old) (places new) carried arrivals (parts-long (size new) (places old) (places new) carried f.block-length) f.arrivals-length

  -- ---- an accepted call
  module _ (ok : lengthen_refusal old new carried arrivals ≡ 0) where
    f : LengthenFitting old new carried arrivals
    f = (accepted-fits old new carried arrivals ok).0

    block-then : (lengthen_after old new carried arrivals).block ≡ joined (lengthen_outcome old new carried arrivals).block
    block-then = ap (λ (x : Held). x.block) (after-accepted old new carried arrivals ok)

    map-then : (lengthen_after old new carried arrivals).map ≡ (lengthen_outcome old new carried arrivals).map
    map-then = ap (λ (x : Held). x.map) (after-accepted old new carried arrivals ok)

    answer-then : lengthen_answer old new carried arrivals ≡ lengthen_answer_at 0 map (lengthen_outcome old new carried arrivals) none
    answer-then = rw ok

    by : RestoredBy new b map (lengthen_after old new carried arrivals).block (lengthen_after old new carried arrivals).map
    by = rw (block-then, map-then) (old-repair new b map f.new-table (start-block old new carried arrivals f) (start-map old new carried arrivals f) (accepted-fits old new carried arrivals ok).1)

    -- a place that isn't lost as entered keeps the mark and packet that it was entered with
    kept : (p : ℕ) → p < places new → (e : Entry) → entry_at (size new) (places old) carried arrivals p ≡ e → mark_of e ≢ 1
        → (get_or (lengthen_after old new carried arrivals).map p 0 ≡ mark_of e) × (part_at (size new) p (lengthen_after old new carried arrivals).block ≡ packet_of (size new) e)
    kept p h e is n =
        let m : get_or map p 0 ≡ mark_of e = mark-is p h ∙ ap mark_of is in
        let r = by.known p h (ne_eqb (get_or map p 0) 1 (λ z. n (sym m ∙ z))) in
        (r.1 ∙ m, r.0 ∙ part-is f p h ∙ ap (packet_of (size new)) is)

    -- the case of place p
    abbrev mark₀ : ℕ → ℕ
    mark₀ p = carried_mark (places old) carried.map p

    fewer : tally 1 (lengthen_outcome old new carried arrivals).map ≤ tally 1 map
    fewer = tally-fewer new b map

    pub accepted-lengthening : AcceptedLengthening old new carried arrivals
    accepted-lengthening = record {
      known = λ p h n.
          let e = carried-old (places old) carried.map p h in
          let inside : p < places new = omega (arith, (lengthens-facts old new f.longer).more-places) in
          let r = kept p inside _ (entry_known (mark₀ p) (get_or arrivals.map p 0) (part_at (size new) p carried.block) (part_at (size new) p arrivals.block) (λ z. n (sym e ∙ z))) (λ z. n (sym e ∙ z)) in
          (r.0 ∙ e, r.1);
      arrived = λ p h e z. kept p h _ (entry-arrived (mark₀ p) (get_or arrivals.map p 0) (part_at (size new) p carried.block) (part_at (size new) p arrivals.block) e z) (λ y. omega arith);
      missing = λ p h e z. by.lost p (is_lost_lem map p (mark-is p h ∙ ap mark_of (entry-missing (mark₀ p) (get_or arrivals.map p 0) (part_at (size new) p carried.block) (part_at (size new) p arrivals.block) e z)));
      restored_by = by;
      counts = ap (λ (r : RepairAnswer). r.restored + r.lost) answer-then ∙ omega (arith, fewer);
      alone = ap (λ (r : RepairAnswer). r.restored + tally 2 map) answer-then ∙ let c = by.counts in let m = ap (tally 1) map-then in omega (arith, fewer);
      still = ap (λ (r : RepairAnswer). r.lost) answer-then ∙ ap (tally 1) (sym map-then);
      no-fault = (ap (λ (r : RepairAnswer). r.check) answer-then, ap (λ (r : RepairAnswer). r.byte) answer-then);
      whole = λ e. by.whole (ap (tally 1) map-then ∙ sym (ap (λ (r : RepairAnswer). r.lost) answer-then) ∙ e);
    }

  -- ---- a contradicted one
  pub contradicted-lengthening : lengthen_refusal old new carried arrivals ≡ 8 → ContradictedLengthening old new carried arrivals
  contradicted-lengthening h = record {
    answer = rw h;
    first = first-fault (none_lost (lengthen_outcome old new carried arrivals).map) (size new) (lengthen_outcome old new carried arrivals).block (outcome-sized new b map g.new-table (start-block old new carried arrivals g)) (checks new) low (reported old new carried arrivals) is-reported;
    marks = λ p l. ap (λ (x : Held). get_or x.map p 0) after ∙ mark-is p l;
    packets = λ p l. ap (λ (x : Held). part_at (size new) p x.block) after ∙ part-is g p l;
    zeroed = λ p l e. ap (λ (x : Held). part_at (size new) p x.block) after
        ∙ entered-zero (size new) (places old) (places new) carried arrivals (parts-long (size new) (places old) (places new) carried g.block-length) g.arrivals-length p l
        (is_lost_lem map p (sym (ap (λ (x : Held). get_or x.map p 0) after) ∙ e));
    no-codeword = λ w word right arrive. true≢false (sym (word-agrees new b map g.new-table (start-block old new carried arrivals g) w word (entered-there old new carried arrivals g w right arrive)) ∙ bad);
  }
    where
      g : LengthenFitting old new carried arrivals
      g = (contradicted-fits old new carried arrivals h).0

      bad : calm old new carried arrivals ≡ false
      bad = (contradicted-fits old new carried arrivals h).1

      after : lengthen_after old new carried arrivals ≡ start old new carried arrivals
      after = after-contradicted old new carried arrivals h

      is-reported : lengthen_fault old new carried arrivals ≡ some (reported old new carried arrivals)
      is-reported = some-fault (lengthen_fault old new carried arrivals) bad ∙ rw h

      low : All (λ c. All (λ p. p < length (lengthen_outcome old new carried arrivals).block) c) (checks new)
      low = rw (outcome-length new b map g.new-table (start-block old new carried arrivals g)) (accepted new g.new-table).low

-- ---- any other refusal: all else is 0, and block and map are as they were
pub refused-lengthening : (old new : List ℕ) (carried arrivals : Held) → lengthen_refusal old new carried arrivals ≢ 0 → lengthen_refusal old new carried arrivals ≢ 8
    → (lengthen_answer old new carried arrivals ≡ refused_with (lengthen_refusal old new carried arrivals) 0 0) × (lengthen_after old new carried arrivals ≡ carried)
refused-lengthening old new carried arrivals n0 n8 =
    let r = lengthen_refusal old new carried arrivals in
    let e8 = ne_eqb r 8 n8 in
    (ap (lengthen_answer_at r l m) (none-handed r (lengthen_fault old new carried arrivals) e8) ∙ at r n0, after-refused old new carried arrivals r refl (ne_eqb r 0 n0) e8)
  where
    l : List ℕ
    l = (start old new carried arrivals).map

    m : State
    m = lengthen_outcome old new carried arrivals

    at : (r : ℕ) → r ≢ 0 → lengthen_answer_at r l m none ≡ refused_with r 0 0
    at zero n = absurd (n refl)
    at (suc r) n = refl

-- ---- what doesn't count
-- carried alike: the same marks at old places, and the same packets where they are known; new places are left out
pub record SameCarried (old new : List ℕ) (one two : Held) : Type 0 where
  pub marks : (p : ℕ) → p < places old → get_or one.map p 0 ≡ get_or two.map p 0
  pub packets : (p : ℕ) → p < places old → get_or one.map p 0 ≢ 1 → part_at (size new) p one.block ≡ part_at (size new) p two.block

-- arrived alike: where the place is lost, the same mark, and the same packet if it arrives; arrivals at known places are left out
pub record SameArrivals (old new : List ℕ) (carried one two : Held) : Type 0 where
  pub marks : (p : ℕ) → p < places new → carried_mark (places old) carried.map p ≡ 1 → get_or one.map p 0 ≡ get_or two.map p 0
  pub packets : (p : ℕ) → p < places new → carried_mark (places old) carried.map p ≡ 1 → get_or one.map p 0 ≡ 0 → part_at (size new) p one.block ≡ part_at (size new) p two.block

-- of the right lengths, and with arrivals' marks of 0 and 1
pub record RightLengths (new : List ℕ) (carried arrivals : Held) : Type 0 where
  pub lengths : wrong_lengths new carried.block carried.map ≡ false
  pub arrived : wrong_lengths new arrivals.block arrivals.map ≡ false
  pub bytes : byte_over arrivals.map ≡ false

-- then the call answers the same, and leaves the same block and map, where nothing before 8 refuses
pub never-counts : (old new : List ℕ) (carried arrivals held₂ arrivals₂ : Held) → LengthenFitting old new carried arrivals → RightLengths new held₂ arrivals₂
    → SameCarried old new carried held₂ → SameArrivals old new carried arrivals arrivals₂
    → (lengthen_answer old new carried arrivals ≡ lengthen_answer old new held₂ arrivals₂) × (lengthen_after old new carried arrivals ≡ lengthen_after old new held₂ arrivals₂)
never-counts old new carried arrivals held₂ arrivals₂ f r a c = by_bool (calm old new carried arrivals)
    (λ e. let x = agreed-refusal old new carried arrivals f e in let y = agreed-refusal old new held₂ arrivals₂ g (sym calm-same ∙ e) in
    (rw (x, y) (ap answer-by starts), after-accepted old new carried arrivals x ∙ ap after-by starts ∙ sym (after-accepted old new held₂ arrivals₂ y)))
    (λ e. let x = contradicted-refusal old new carried arrivals f e in let y = contradicted-refusal old new held₂ arrivals₂ g (sym calm-same ∙ e) in
    (rw (x, y) (ap refused_as starts), after-contradicted old new carried arrivals x ∙ starts ∙ sym (after-contradicted old new held₂ arrivals₂ y)))
  where
    lens : (length held₂.block ≡ places new * size new) × (length held₂.map ≡ places new)
    lens = lengths-fit new held₂.block held₂.map r.lengths

    came : (length arrivals₂.block ≡ places new * size new) × (length arrivals₂.map ≡ places new)
    came = lengths-fit new arrivals₂.block arrivals₂.map r.arrived

    -- the old places' marks, as 16 looks at them
    same_old : take (places old) carried.map ≡ take (places old) held₂.map
    same_old =
        let m = (lengthens-facts old new f.longer).more-places in
        let long : length (take (places old) carried.map) ≡ places old = length-take-le (places old) carried.map (omega (arith, f.map-length)) in
        ext_get_or 0 _ _ (long ∙ sym (length-take-le (places old) held₂.map (omega (arith, lens.1))))
        (λ p h. let i : p < places old = omega arith in get_or-take (places old) carried.map p 0 i ∙ a.marks p i ∙ sym (get_or-take (places old) held₂.map p 0 i))

    g : LengthenFitting old new held₂ arrivals₂
    g = record {
      old-table = f.old-table;
      new-table = f.new-table;
      block-length = lens.0;
      map-length = lens.1;
      arrivals-length = came.0;
      arrived-length = came.1;
      longer = f.longer;
      carried-bytes = ap (any_of (ltb 2)) (sym same_old) ∙ f.carried-bytes;
      arrived-bytes = r.bytes;
    }

    marks-same : (p : ℕ) → carried_mark (places old) carried.map p ≡ carried_mark (places old) held₂.map p
    marks-same p = ⊎_elim
        (λ h. carried-old (places old) carried.map p h ∙ a.marks p h ∙ sym (carried-old (places old) held₂.map p h))
        (λ h. carried-new (places old) carried.map p h ∙ sym (carried-new (places old) held₂.map p h))
        (side p (places old))

    packet-same : (p : ℕ) → carried_mark (places old) carried.map p ≢ 1 → part_at (size new) p carried.block ≡ part_at (size new) p held₂.block
    packet-same p n = ⊎_elim
        (λ h. a.packets p h (λ z. n (carried-old (places old) carried.map p h ∙ z)))
        (λ h. absurd (n (carried-new (places old) carried.map p h)))
        (side p (places old))

    same : (p : ℕ) → p < places new → entry_at (size new) (places old) carried arrivals p ≡ entry_at (size new) (places old) held₂ arrivals₂ p
    same p h = entry-alike (carried_mark (places old) carried.map p) (get_or arrivals.map p 0) (get_or arrivals₂.map p 0) (part_at (size new) p carried.block) (part_at (size new) p arrivals.block)
        (part_at (size new) p held₂.block) (part_at (size new) p arrivals₂.block) (packet-same p) (c.marks p h) (c.packets p h)
        ∙ ap (λ x. entry x (get_or arrivals₂.map p 0) (part_at (size new) p held₂.block) (part_at (size new) p arrivals₂.block)) (marks-same p)

    starts : start old new carried arrivals ≡ start old new held₂ arrivals₂
    starts = ap₂ (λ x y. record { block = joined x; map = y }) (each_same _ _ (places new) (λ p h. ap (packet_of (size new)) (same p h))) (each_same _ _ (places new) (λ p h. ap mark_of (same p h)))

    calm-same : calm old new carried arrivals ≡ calm old new held₂ arrivals₂
    calm-same = ap (λ (x : Held). agreeing new x.block x.map) starts

    answer-by : Held → RepairAnswer
    answer-by x = lengthen_answer_at 0 x.map (outcome new x.block x.map) (handed_on 0 (contradicting new x.block x.map))

    refused_as : Held → RepairAnswer
    refused_as x = lengthen_answer_at 8 x.map (outcome new x.block x.map) (handed_on 8 (contradicting new x.block x.map))

    after-by : Held → Held
    after-by x = record { block = joined (outcome new x.block x.map).block; map = (outcome new x.block x.map).map }
