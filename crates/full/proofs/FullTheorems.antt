-- C-14 over the definitions of the call, for every table that is accepted, every block and every pattern of loss.
use Rattle.std.specs.Prelude.{◌≡◌, refl, Bool, true, false, cond, ◌||◌, List, [], ◌∷◌, ◌++◌, map as each, ◌≢◌, ◌⊎◌, ◌↔◌, ℕ, zero, suc, ◌+◌, ◌^◌, ◌<◌, eqb, length, get_or, replicate}
use Rattle.std.proofs.Common.{sym, ap₂, ◌∙◌, subst, inl, inr, arith, ne_eqb}
use Rattle.std.proofs.Math.Path.{ap}
use Rattle.std.proofs.Math.Option.{none, some}
use Rattle.suspects.specs.Blame.{blamed}
use Rattle.suspects.proofs.BlameLaws.{agreed-none, blamed-contradicts}
use Rattle.decided.specs.AfterLaws.{after-decided, after-lost, after-received, mark-decided, mark-lost, mark-received, marks-at}
use Rattle.decided.proofs.Counted.{counted}
use Rattle.decided.specs.Decided.{lost_row, decided, some_of, clashes_at, packet_after, mark_after, solved_block, solved_map}
use Rattle.decided.proofs.DecidedTheorems.{after-sums, after-part, after-right, after-whole}
use Rattle.decided.proofs.PeeledLaws.{calm-agrees, contradicted-clashes}
use Rattle.erasure.proofs.OfferedLaws.{bytes-all, byte_at, agree-there}
use Rattle.erasure.specs.Offered.{wrong_lengths, byte_over, Agree}
use Rattle.erasure.proofs.OldBytes.{old-bytes-cleared}
use Rattle.erasure.specs.LostLaws.{not-lost, is_lost_lem, no-lost}
use Rattle.erasure.proofs.OldRepair.{part-is as old-part, cleared-kept, cleared-zero}
use Rattle.erasure.proofs.OutcomeLaws.{tally-lost}
use Rattle.erasure.specs.Restoring.{is_lost, lost_places, zero_lost, tally, outcome, agreeing, block_if, map_if}
use Rattle.full.specs.AgreeLaws.{clash-word, calm-one, has_value, exactly-decided, old-decided}
use Rattle.full.specs.Full.{clashing, full_refusal, full_answer_at, full_answer, full_block_after, full_map_after, full_work_after, FittingAll, Possible, OneThere}
use Rattle.full.specs.FullLaws.{fitting-refusal, accepted-fits, clashing-fits, block-accepted, block-clashing, block_refused, map-accepted, map-refused, answer-accepted, answer-refused, work-accepted, work-clashing, work-refused}
use Rattle.gf2.specs.Gf2.{mask_for}
use Rattle.lists.specs.ListLaws.{all_map, map_same}
use Rattle.lists.specs.Lists.{All}
use Rattle.lists.specs.Numbers.{from_all}
use Rattle.lists.specs.Tests.{by_bool, eqb-true, eqb-false}
use Rattle.repair.specs.Repair.{repair_refusal, repair_block_after, repair_map_after}
use Rattle.repair.specs.RepairLaws.{agreed-refusal, contradicted-fits}
use Rattle.repair.proofs.RepairTheorems.{plainly}
use Rattle.table.specs.Codewords.{IsCodeword}
use Rattle.table.specs.PacketCall.{part_at}
use Rattle.table.specs.PacketLaws.{packet-at, same-packets}
use Rattle.table.specs.Packets.{packets, joined, packet_sum}
use Rattle.table.specs.FirstCause.{first_cause, wrong_length}
use Rattle.table.specs.Table.{places, size, checks, table_causes, work_words}

-- an accepted full repair; blocks hold bytes
pub record FullyAccepted (t b map work : List ℕ) : Type 0 where
  -- some codeword agrees with the received packets
  pub agreed : All (λ x. x < 256) b → (w : List ℕ) × Possible t b map w
  -- "It restores a place exactly if all codewords that agree with the received packets agree there"
  pub exactly : All (λ x. x < 256) b → (p : ℕ) → p < places t → get_or map p 0 ≡ 1 → (get_or (full_map_after t b map work) p 0 ≡ 2) ↔ OneThere t b map p
  -- and then the block holds their packet there
  pub value : (p : ℕ) → p < places t → get_or map p 0 ≡ 1 → get_or (full_map_after t b map work) p 0 ≡ 2
      → (w : List ℕ) → IsCodeword t w → Agree t b map w → part_at (size t) p (full_block_after t b map work) ≡ part_at (size t) p w
  -- a lost place stays lost or is marked as restored
  pub lost : (p : ℕ) → p < places t → get_or map p 0 ≡ 1 → (get_or (full_map_after t b map work) p 0 ≡ 1) ⊎ (get_or (full_map_after t b map work) p 0 ≡ 2)
  -- "zeroes as the old one does": places still lost hold zero bytes
  pub zeroed : (p : ℕ) → p < places t → get_or (full_map_after t b map work) p 0 ≡ 1 → part_at (size t) p (full_block_after t b map work) ≡ replicate (size t) 0
  -- received packets are untouched, and so is their mark
  pub received : (p : ℕ) → p < places t → get_or map p 0 ≡ 0 → (part_at (size t) p (full_block_after t b map work) ≡ part_at (size t) p b) × (get_or (full_map_after t b map work) p 0 ≡ 0)
  -- every check without a lost place sums to zero
  pub sums : All (λ c. length (lost_places (full_map_after t b map work) c) ≡ 0 → packet_sum (size t) (packets (size t) (places t) (full_block_after t b map work)) c ≡ replicate (size t) 0) (checks t)
  -- restored and still lost are the places that were lost
  pub counts : (full_answer t b map work).restored + (full_answer t b map work).lost ≡ tally 1 map
  -- where nothing stays lost, the block is a codeword
  pub whole : (full_answer t b map work).lost ≡ 0 → IsCodeword t (full_block_after t b map work)
  -- "zero afterwards"
  pub work-zero : full_work_after t b map work ≡ replicate (length work) 0

-- full repair of packets that come from the codeword w
pub record FullyRepairing (t b map work w : List ℕ) : Type 0 where
  pub not-refused : full_refusal t b map work ≡ 0
  -- every restored packet is the codeword's, and every received one
  pub values : (p : ℕ) → p < places t → get_or (full_map_after t b map work) p 0 ≢ 1 → part_at (size t) p (full_block_after t b map work) ≡ part_at (size t) p w
  -- where nothing stays lost, the block is that codeword
  pub all_back : (full_answer t b map work).lost ≡ 0 → full_block_after t b map work ≡ w

-- packets with which no codeword agrees
pub record FullyContradicted (t b map work : List ℕ) : Type 0 where
  pub no-codeword : (w : List ℕ) → IsCodeword t w → Agree t b map w → ⊥
  -- "its check and byte are 0", and so are the counts
  pub answer : full_answer t b map work ≡ record { refusal = 8; restored = 0; lost = 0; check = 0; byte = 0 }
  pub received : (p : ℕ) → p < places t → get_or map p 0 ≡ 0 → part_at (size t) p (full_block_after t b map work) ≡ part_at (size t) p b
  pub zeroed : (p : ℕ) → p < places t → get_or map p 0 ≡ 1 → part_at (size t) p (full_block_after t b map work) ≡ replicate (size t) 0
  pub map-kept : full_map_after t b map work ≡ map
  pub work-zero : full_work_after t b map work ≡ replicate (length work) 0

module _ (t b map work : List ℕ) (ok : full_refusal t b map work ≡ 0) where
  fits : FittingAll t b map work
  fits = (accepted-fits t b map work ok).0

  calm : clashing t b map ≡ false
  calm = (accepted-fits t b map work ok).1

  -- packet and mark of a place afterwards
  part-is : (p : ℕ) → p < places t → part_at (size t) p (full_block_after t b map work) ≡ packet_after (size t) (checks t) (packets (size t) (places t) b) map p
  part-is p h = ap (part_at (size t) p) (block-accepted t b map work ok) ∙ after-part t b map fits.old.table fits.old.block p h

  mark-is : (p : ℕ) → p < places t → get_or (full_map_after t b map work) p 0 ≡ mark_after (checks t) map p
  mark-is p h = ap (λ l. get_or l p 0) (map-accepted t b map work ok) ∙ marks-at (places t) (checks t) map p h

  -- a lost place that is marked 2 is decided, and one that is marked 1 isn't
  two-decided : (p : ℕ) → p < places t → is_lost map p ≡ true → get_or (full_map_after t b map work) p 0 ≡ 2 → decided map (checks t) p ≡ true
  two-decided p h e two = by_bool (decided map (checks t) p) (λ d. d)
      (λ d. let z : ◌≡◌ {A = ℕ} 2 1 = sym two ∙ mark-is p h ∙ mark-lost (checks t) map p e d in absurd (omega arith))

  one_left : (p : ℕ) → p < places t → is_lost map p ≡ true → get_or (full_map_after t b map work) p 0 ≡ 1 → decided map (checks t) p ≡ false
  one_left p h e one = by_bool (decided map (checks t) p)
      (λ d. let z : ◌≡◌ {A = ℕ} 1 2 = sym one ∙ mark-is p h ∙ mark-decided (checks t) map p e d in absurd (omega arith)) (λ d. d)

  -- where nothing stays lost
  none_left : (full_answer t b map work).lost ≡ 0 → tally 1 (solved_map (places t) (checks t) map) ≡ 0
  none_left z = ap (λ r. r.lost) (sym (answer-accepted t b map work ok)) ∙ z

  whole_word : (full_answer t b map work).lost ≡ 0 → IsCodeword t (full_block_after t b map work)
  whole_word z = subst (IsCodeword t) (sym (block-accepted t b map work ok)) (after-whole t b map fits.old.table fits.old.block calm (none_left z))

  pub fully-accepted : FullyAccepted t b map work
  fully-accepted = record {
    agreed = λ bytes. let e = calm-one t b map fits.old calm bytes in (e.0, record { word = e.1.0; agree = e.1.1.0; bytes = e.1.1.1 });
    exactly = λ bytes p h e. (
      (λ two u w x y. let d = two-decided p h (is_lost_lem map p e) two in
          has_value t b map fits.old p h d u x.word x.agree ∙ sym (has_value t b map fits.old p h d w y.word y.agree)),
      (λ one. mark-is p h ∙ mark-decided (checks t) map p (is_lost_lem map p e) (exactly-decided t b map fits.old calm bytes p h e
          (λ u w c a x d k y. one u w (record { word = c; agree = a; bytes = x }) (record { word = d; agree = k; bytes = y })))),
    );
    value = λ p h e two w c a. let d = two-decided p h (is_lost_lem map p e) two in
        part-is p h ∙ after-decided (size t) (checks t) (packets (size t) (places t) b) map p (is_lost_lem map p e) d ∙ sym (has_value t b map fits.old p h d w c a);
    lost = λ p h e. by_bool (decided map (checks t) p)
        (λ d. inr (mark-is p h ∙ mark-decided (checks t) map p (is_lost_lem map p e) d))
        (λ d. inl (mark-is p h ∙ mark-lost (checks t) map p (is_lost_lem map p e) d));
    zeroed = λ p h one. by_bool (is_lost map p)
        (λ e. part-is p h ∙ after-lost (size t) (checks t) (packets (size t) (places t) b) map p e (one_left p h e one))
        (λ e. absurd (eqb-false (get_or map p 0) 1 e (sym (mark-is p h ∙ mark-received (checks t) map p e) ∙ one)));
    received = λ p h e. (
      part-is p h ∙ after-received (size t) (checks t) (packets (size t) (places t) b) map p (not-lost map p e) ∙ packet-at (size t) (places t) b p h,
      mark-is p h ∙ mark-received (checks t) map p (not-lost map p e) ∙ e,
    );
    sums = rw (map-accepted t b map work ok, block-accepted t b map work ok) (after-sums t b map fits.old.table fits.old.block calm);
    counts = rw (answer-accepted t b map work ok) (counted (places t) (checks t) map fits.old.map-length (byte_at (bytes-all map fits.old.map-bytes)));
    whole = whole_word;
    work-zero = work-accepted t b map work ok ∙ ap (λ (k : ℕ). replicate k 0) (sym fits.room);
  }

  -- ---- beside the old repair
  -- what full repair accepts the old repair accepts ..
  pub old-accepts : agreeing t b map ≡ true
  old-accepts = calm-agrees t b map fits.old.table fits.old.block calm

  -- .. so repair accepts it too, and blames nobody
  pub nobody-blamed : (repair_refusal t b map ≡ 0) × (blamed t b map ≡ none)
  nobody-blamed = (agreed-refusal t b map fits.old old-accepts, agreed-none t b map old-accepts)

  -- what repair restores full repair restores, with the same packet
  pub restores-alike : (p : ℕ) → p < places t → get_or map p 0 ≡ 1 → get_or (repair_map_after t b map) p 0 ≡ 2
      → (get_or (full_map_after t b map work) p 0 ≡ 2) × (part_at (size t) p (full_block_after t b map work) ≡ part_at (size t) p (repair_block_after t b map))
  restores-alike p h e two =
      let plain = plainly t b map fits.old nobody-blamed.1 in
      let mark : get_or (outcome t b map).map p 0 ≡ 2 = ap (λ l. get_or l p 0) (sym (plain.marks ∙ ap (λ v. map_if v t b map) old-accepts)) ∙ two in
      let r = old-decided t b map fits.old calm p h e (ap (λ x. eqb x 1) mark) in
      let part = ap (part_at (size t) p) (plain.block ∙ ap (λ v. block_if v t b map) old-accepts) ∙ old-part t b map fits.old.table fits.old.block p h in (
        mark-is p h ∙ mark-decided (checks t) map p (is_lost_lem map p e) r.0,
        part-is p h ∙ after-decided (size t) (checks t) (packets (size t) (places t) b) map p (is_lost_lem map p e) r.0 ∙ r.1 ∙ sym part,
      )

-- a call refused with 1 to 7: "returns its number with counts 0 and leaves all buffers as they were"
pub record FullyRefused (t b map work : List ℕ) : Type 0 where
  pub answer : full_answer t b map work ≡ record { refusal = full_refusal t b map work; restored = 0; lost = 0; check = 0; byte = 0 }
  pub block-kept : full_block_after t b map work ≡ b
  pub map-kept : full_map_after t b map work ≡ map
  pub work-kept : full_work_after t b map work ≡ work

pub fully-refused : (t b map work : List ℕ) → full_refusal t b map work ≢ 0 → full_refusal t b map work ≢ 8 → FullyRefused t b map work
fully-refused t b map work n0 n8 =
    let e0 = ne_eqb (full_refusal t b map work) 0 n0 in
    let e8 = ne_eqb (full_refusal t b map work) 8 n8 in
    record {
      answer = at (full_refusal t b map work) (full_map_after t b map work) n0;
      block-kept = block_refused t b map work (full_refusal t b map work) refl e0 e8;
      map-kept = map-refused t b map work (full_refusal t b map work) refl e0;
      work-kept = work-refused t b map work (full_refusal t b map work) refl e0 e8;
    }
  where
    at : (r : ℕ) (after : List ℕ) → r ≢ 0 → full_answer_at r after ≡ record { refusal = r; restored = 0; lost = 0; check = 0; byte = 0 }
    at zero after ne = absurd (ne refl)
    at (suc r) after ne = refl

-- no answer has a check or a byte
pub check-and-byte : (t b map work : List ℕ) → ((full_answer t b map work).check ≡ 0) × ((full_answer t b map work).byte ≡ 0)
check-and-byte t b map work = at (full_refusal t b map work) (full_map_after t b map work)
  where
    at : (r : ℕ) (after : List ℕ) → ((full_answer_at r after).check ≡ 0) × ((full_answer_at r after).byte ≡ 0)
    at zero after = (refl, refl)
    at (suc r) after = (refl, refl)

-- what work holds never counts: its length does
pub record WorkAlike (t b map work other : List ℕ) : Type 0 where
  pub answer : full_answer t b map work ≡ full_answer t b map other
  pub block : full_block_after t b map work ≡ full_block_after t b map other
  pub marks : full_map_after t b map work ≡ full_map_after t b map other

module _ (t b map work other : List ℕ) (long : length work ≡ length other) where
  same-refusal : full_refusal t b map work ≡ full_refusal t b map other
  unfolding full_refusal
  same-refusal = ap (λ (k : ℕ). first_cause (table_causes t ++ ((wrong_lengths t b map || wrong_length k work_words, 5) ∷ (byte_over map, 7) ∷ (clashing t b map, 8) ∷ []))) long

  same-marks : full_map_after t b map work ≡ full_map_after t b map other
  same-marks = ap {B = List ℕ} (λ r. elim (eqb r 0) [ true ↦ solved_map (places t) (checks t) map | false ↦ map ]) same-refusal

  pub work-never-counts : WorkAlike t b map work other
  work-never-counts = record {
    answer = ap₂ full_answer_at same-refusal same-marks;
    block = ap {B = List ℕ}
        (λ r. elim (eqb r 0) [
          | true ↦ joined (solved_block (places t) (size t) (checks t) (packets (size t) (places t) b) map)
          | false ↦
              elim (eqb r 8) [ true ↦ joined (zero_lost (size t) map (packets (size t) (places t) b)) | false ↦ b ]
        ]) same-refusal;
    marks = same-marks;
  }

-- ---- a call that none of 1 to 7 refuses
module _ (t b map work : List ℕ) (f : FittingAll t b map work) where
  calm-passes : clashing t b map ≡ false → full_refusal t b map work ≡ 0
  calm-passes e = fitting-refusal t b map work f ∙ ap (λ (v : Bool). cond v 8 0) e

  clash-refused : clashing t b map ≡ true → full_refusal t b map work ≡ 8
  clash-refused e = fitting-refusal t b map work f ∙ ap (λ (v : Bool). cond v 8 0) e

  -- "refusal 8 means that no codeword agrees with them": exactly then it is answered
  pub eight-exactly : All (λ x. x < 256) b → (full_refusal t b map work ≡ 8) ↔ ((w : List ℕ) → Possible t b map w → ⊥)
  eight-exactly bytes = (
    (λ h w x. clash-word t b map f.old (clashing-fits t b map work h).1 w x.word x.agree),
    (λ none. by_bool (clashing t b map) clash-refused
        (λ e. let o = calm-one t b map f.old e bytes in absurd (none o.0 (record { word = o.1.0; agree = o.1.1.0; bytes = o.1.1.1 })))),
  )

  -- where the old repair contradicts, full repair refuses with 8: both where repair does and where it blames a place
  pub refuses-alike : agreeing t b map ≡ false → full_refusal t b map work ≡ 8
  refuses-alike h = clash-refused (contradicted-clashes t b map f.old.table f.old.block h)

  pub eight-alike : repair_refusal t b map ≡ 8 → full_refusal t b map work ≡ 8
  eight-alike h = refuses-alike (contradicted-fits t b map h).1.0

  pub blamed-refused : (p : ℕ) → blamed t b map ≡ some p → full_refusal t b map work ≡ 8
  blamed-refused p h = refuses-alike (blamed-contradicts t b map p h)

  module _ (w : List ℕ) (word : IsCodeword t w) (agree : Agree t b map w) where
    -- a codeword agrees
    passes : full_refusal t b map work ≡ 0
    passes = by_bool (clashing t b map) (λ e. absurd (clash-word t b map f.old e w word agree)) calm-passes

    right : (p : ℕ) → p < places t → is_lost (solved_map (places t) (checks t) map) p ≡ false → part_at (size t) p (full_block_after t b map work) ≡ part_at (size t) p w
    right p h e = ap (part_at (size t) p) (block-accepted t b map work passes)
        ∙ after-right t b map f.old.table f.old.block w word (agree-there t b map f.old w agree) p h e

    pub fully-repairing : FullyRepairing t b map work w
    fully-repairing = record {
      not-refused = passes;
      values = λ p h ne. right p h (by_bool (is_lost (solved_map (places t) (checks t) map) p)
          (λ e. absurd (ne (ap (λ l. get_or l p 0) (map-accepted t b map work passes) ∙ eqb-true _ 1 e))) (λ e. e));
      all_back = λ z.
          let free = no-lost (solved_map (places t) (checks t) map) (sym (tally-lost (solved_map (places t) (checks t) map)) ∙ none_left t b map work passes z) in
          same-packets (size t) (places t) (full_block_after t b map work) w (whole_word t b map work passes z).size_fits word.size_fits (λ p h. right p h (free p));
    }

pub fully-contradicted : (t b map work : List ℕ) → full_refusal t b map work ≡ 8 → FullyContradicted t b map work
fully-contradicted t b map work h = record {
  no-codeword = clash-word t b map fits.old (clashing-fits t b map work h).1;
  answer = answer-refused t b map work 7 h;
  received = λ p k e. ap (part_at (size t) p) (block-clashing t b map work h) ∙ cleared-kept t b map fits.old.table fits.old.block p k (not-lost map p e);
  zeroed = λ p k e. ap (part_at (size t) p) (block-clashing t b map work h) ∙ cleared-zero t b map fits.old.table fits.old.block p k (is_lost_lem map p e);
  map-kept = map-refused t b map work 8 h refl;
  work-zero = work-clashing t b map work h ∙ ap (λ (k : ℕ). replicate k 0) (sym fits.room);
}
  where
    fits : FittingAll t b map work
    fits = (clashing-fits t b map work h).0

-- ---- "Old bytes at lost places never count": blocks with the same received packets come to the same answer, block, map and work
pub record Alike (t b c map work : List ℕ) : Type 0 where
  pub answer : full_answer t b map work ≡ full_answer t c map work
  pub block : full_block_after t b map work ≡ full_block_after t c map work
  pub marks : full_map_after t b map work ≡ full_map_after t c map work
  pub work-same : full_work_after t b map work ≡ full_work_after t c map work

module _ (t b c map work : List ℕ) (f : FittingAll t b map work) (long : length c ≡ length b) (agree : Agree t b map c) where
  same : (p : ℕ) → p < places t → is_lost map p ≡ false → part_at (size t) p b ≡ part_at (size t) p c
  same = agree-there t b map f.old c agree

  cleared : zero_lost (size t) map (packets (size t) (places t) b) ≡ zero_lost (size t) map (packets (size t) (places t) c)
  cleared = old-bytes-cleared t b c map same

  f-too : FittingAll t c map work
  f-too = record { old = record { table = f.old.table; block = long ∙ f.old.block; map-length = f.old.map-length; map-bytes = f.old.map-bytes }; room = f.room }

  clashing-alike : clashing t b map ≡ clashing t c map
  clashing-alike = ap (λ (z : List (List ℕ)). clashes_at (size t) (lost_row map) (packet_sum (size t) z) (checks t) 0 (replicate (size t) 0)) cleared

  refused-alike : full_refusal t b map work ≡ full_refusal t c map work
  refused-alike = fitting-refusal t b map work f ∙ ap (λ (v : Bool). cond v 8 0) clashing-alike ∙ sym (fitting-refusal t c map work f-too)

  packet-alike : (p : ℕ) → p < places t → packet_after (size t) (checks t) (packets (size t) (places t) b) map p ≡ packet_after (size t) (checks t) (packets (size t) (places t) c) map p
  packet-alike p h = by_bool (is_lost map p)
      (λ e. by_bool (decided map (checks t) p)
      (λ d. after-decided (size t) (checks t) (packets (size t) (places t) b) map p e d
      ∙ ap (λ (z : List (List ℕ)). some_of (size t) (mask_for (each (lost_row map) (checks t)) (2 ^ p)) (each (packet_sum (size t) z) (checks t))) cleared
      ∙ sym (after-decided (size t) (checks t) (packets (size t) (places t) c) map p e d))
      (λ d. after-lost (size t) (checks t) (packets (size t) (places t) b) map p e d ∙ sym (after-lost (size t) (checks t) (packets (size t) (places t) c) map p e d)))
      (λ e. after-received (size t) (checks t) (packets (size t) (places t) b) map p e ∙ packet-at (size t) (places t) b p h ∙ same p h e
      ∙ sym (packet-at (size t) (places t) c p h) ∙ sym (after-received (size t) (checks t) (packets (size t) (places t) c) map p e))

  solved-alike : solved_block (places t) (size t) (checks t) (packets (size t) (places t) b) map ≡ solved_block (places t) (size t) (checks t) (packets (size t) (places t) c) map
  solved-alike = map_same _ _ (all_map (λ p k. packet-alike p (omega (arith, k.1))) (from_all 0 (places t)))

  marks-alike : full_map_after t b map work ≡ full_map_after t c map work
  marks-alike = ap {B = List ℕ} (λ r. elim (eqb r 0) [ true ↦ solved_map (places t) (checks t) map | false ↦ map ]) refused-alike

  pub old-bytes-never-count : Alike t b c map work
  old-bytes-never-count = record {
    answer = ap₂ full_answer_at refused-alike marks-alike;
    block = by_bool (clashing t b map)
        (λ e. let h = clash-refused t b map work f e in block-clashing t b map work h ∙ ap joined cleared ∙ sym (block-clashing t c map work (sym refused-alike ∙ h)))
        (λ e. let h = calm-passes t b map work f e in block-accepted t b map work h ∙ ap joined solved-alike ∙ sym (block-accepted t c map work (sym refused-alike ∙ h)));
    marks = marks-alike;
    work-same = by_bool (clashing t b map)
        (λ e. let h = clash-refused t b map work f e in work-clashing t b map work h ∙ sym (work-clashing t c map work (sym refused-alike ∙ h)))
        (λ e. let h = calm-passes t b map work f e in work-accepted t b map work h ∙ sym (work-accepted t c map work (sym refused-alike ∙ h)));
  }
