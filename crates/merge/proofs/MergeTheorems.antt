-- What C-19 promises, over the definitions of the call: for every table that is accepted, every two blocks and every two patterns of loss.
use Rattle.std.specs.Prelude.{◌≡◌, refl, true, false, not, ◌||◌, List, [], ◌∷◌, ◌++◌, ◌≢◌, ◌⊎◌, ℕ, zero, suc, ◌+◌, ◌*◌, ◌<◌, eqb, length, get_or, replicate}
use Rattle.std.proofs.Common.{sym, ap, ap₂, ◌∙◌, true≢false, ⊎_elim, arith, ne_eqb}
use Rattle.std.proofs.Math.Option.{none, some}
use Rattle.aerials.specs.Aerials.{packet_of, mark_of, heard_at, kinds}
use Rattle.aerials.specs.HeardLaws.{lost-zero, no-clash, merged-word, lost-both}
use Rattle.aerials.proofs.MergedLaws.{SameHeard, four-counts, lost-counts, no-clashes, mark-at, mark-beyond, merged-part, merged-exchanged, merged-alike}
use Rattle.erasure.proofs.Largest.{stays-lost, largest-within}
use Rattle.erasure.specs.LostLaws.{not-lost, is_lost_lem}
use Rattle.erasure.specs.Offered.{Held, wrong_lengths, byte_over, Fitting, Agree, handed_on}
use Rattle.erasure.proofs.OfferedLaws.{bytes-all, byte_at, agree-there, sized, low, none-handed}
use Rattle.erasure.proofs.OldRepair.{RestoredBy, old-repair, word-agrees, word-values}
use Rattle.erasure.proofs.OutcomeLaws.{tally-restored}
use Rattle.erasure.proofs.Tally.{none-restored}
use Rattle.erasure.specs.Restoring.{State, AgreeThere, tally, none_lost, outcome, contradicting, agreeing, is_lost}
use Rattle.faults.proofs.FaultLaws.{some-fault, first-fault}
use Rattle.faults.specs.Faults.{Fault, FirstFault}
use Rattle.lists.specs.Tests.{eqb-true, by_bool, or_comm, or-exchange, side}
use Rattle.merge.specs.Merge.{third, merge_outcome, merge_fault, wrong_any, over_either, merge_refusal, MergeAnswer, refused_with, merge_answer_at, merge_answer, merge_after, FittingThree}
use Rattle.merge.proofs.MergeLaws.{calm, agreed-refusal, contradicted-refusal, accepted-fits, contradicted-fits, after-accepted, after-contradicted, after-refused, third-fits}
use Rattle.table.specs.Codewords.{IsCodeword}
use Rattle.table.specs.FirstCause.{first_cause, wrong_length}
use Rattle.table.specs.PacketCall.{part_at}
use Rattle.table.specs.Packets.{joined}
use Rattle.table.specs.Table.{places, size, checks, table_causes}

-- ---- what is promised
-- an accepted call, whatever was heard
pub record AcceptedMerge (t : List ℕ) (one two out : Held) : Type 0 where
  -- "Report the four counts, which add up to n"
  pub counts-n : (merge_answer t one two out).agreed + (merge_answer t one two out).single + (merge_answer t one two out).silent + (merge_answer t one two out).clash ≡ places t
  -- "Agreed and single packets go into a third block", and stay there
  pub received : (p : ℕ) → p < places t → mark_of (heard_at (size t) one two p) ≡ 0
      → (part_at (size t) p (merge_after t one two out).block ≡ packet_of (size t) (heard_at (size t) one two p)) × (get_or (merge_after t one two out).map p 0 ≡ 0)
  -- "clash and silence count as lost": such a place stays lost or is restored
  pub lost : (p : ℕ) → p < places t → mark_of (heard_at (size t) one two p) ≡ 1
      → (get_or (merge_after t one two out).map p 0 ≡ 1) ⊎ (get_or (merge_after t one two out).map p 0 ≡ 2)
  -- "the old repair without C-17's rule runs on it"
  pub restored_by : RestoredBy t (third t one two).block (third t one two).map (merge_after t one two out).block (merge_after t one two out).map
  -- "and the repair's" counts: places marked 2, and places still marked 1; together those that are silent or in clash
  pub restored : (merge_answer t one two out).restored ≡ tally 2 (merge_after t one two out).map
  pub still : (merge_answer t one two out).lost ≡ tally 1 (merge_after t one two out).map
  pub counts : (merge_answer t one two out).restored + (merge_answer t one two out).lost ≡ (merge_answer t one two out).silent + (merge_answer t one two out).clash
  -- without a check and its byte
  pub no-fault : ((merge_answer t one two out).check ≡ 0) × ((merge_answer t one two out).byte ≡ 0)
  -- where nothing stays lost, the third block is a codeword
  pub whole : (merge_answer t one two out).lost ≡ 0 → IsCodeword t (merge_after t one two out).block

-- the check and byte that are reported
abbrev pub reported : List ℕ → Held → Held → Held → Fault
reported t one two out = record { check = (merge_answer t one two out).check; byte = (merge_answer t one two out).byte }

-- packets that contradict
pub record ContradictedMerge (t : List ℕ) (one two out : Held) : Type 0 where
  -- "With 8 all counts are 0"; check and byte are the old repair's
  pub answer : merge_answer t one two out ≡ refused_with 8 (reported t one two out).check (reported t one two out).byte
  pub first : FirstFault (none_lost (merge_outcome t one two).map) (size t) (merge_outcome t one two).block (checks t) (reported t one two out)
  -- "the third map keeps the merged 0 and 1"
  pub marks : (p : ℕ) → p < places t → get_or (merge_after t one two out).map p 0 ≡ mark_of (heard_at (size t) one two p)
  -- agreed and single packets stay; "lost places of the third block are zero"
  pub packets : (p : ℕ) → p < places t → part_at (size t) p (merge_after t one two out).block ≡ packet_of (size t) (heard_at (size t) one two p)
  pub zeroed : (p : ℕ) → p < places t → get_or (merge_after t one two out).map p 0 ≡ 1 → part_at (size t) p (merge_after t one two out).block ≡ replicate (size t) 0
  -- no codeword agrees with both listeners
  pub no-codeword : (w : List ℕ) → IsCodeword t w → Agree t one.block one.map w → Agree t two.block two.map w → ⊥

-- "Two listeners to one sent codeword, both right where they heard"
pub record OneSent (t : List ℕ) (one two out : Held) (w : List ℕ) : Type 0 where
  -- are not refused, not with 8 either
  pub not-refused : merge_refusal t one two out ≡ 0
  -- "never clash"
  pub no-clash-counted : (merge_answer t one two out).clash ≡ 0
  -- every place that isn't lost holds what was sent, received or restored
  pub values : (p : ℕ) → p < places t → get_or (merge_after t one two out).map p 0 ≢ 1 → part_at (size t) p (merge_after t one two out).block ≡ part_at (size t) p w
  -- "and together leave no place lost that either alone would receive or restore", by the old repair of what it heard
  pub first-kept : (p : ℕ) → p < places t → is_lost (outcome t one.block one.map).map p ≡ false → get_or (merge_after t one two out).map p 0 ≢ 1
  pub second-kept : (p : ℕ) → p < places t → is_lost (outcome t two.block two.map).map p ≡ false → get_or (merge_after t one two out).map p 0 ≢ 1

-- ---- the proofs
module _ (t : List ℕ) (one two out : Held) where
  abbrev b₃ : List ℕ
  b₃ = (third t one two).block

  abbrev map₃ : List ℕ
  map₃ = (third t one two).map

  mark-is : (p : ℕ) → p < places t → get_or map₃ p 0 ≡ mark_of (heard_at (size t) one two p)
  mark-is = mark-at (places t) (size t) one two

  -- ---- two listeners to one codeword
  module _ (fits : FittingThree t one two out) (w : List ℕ) (word : IsCodeword t w) (right1 : Agree t one.block one.map w) (right2 : Agree t two.block two.map w) where
    fit : Fitting t b₃ map₃
    fit = third-fits t one two out fits

    -- the merged packets are the codeword's
    there : AgreeThere t b₃ map₃ w
    there = agree-there t b₃ map₃ fit w (λ p h e. merged-part (places t) (size t) one two fits.first.block fits.second.block p h
        ∙ merged-word (get_or one.map p 0) (get_or two.map p 0) (part_at (size t) p one.block) (part_at (size t) p two.block) (part_at (size t) p w) (right1 p h) (right2 p h) (size t) (sym (mark-is p h) ∙ e))

    sent-agrees : calm t one two out ≡ true
    sent-agrees = word-agrees t b₃ map₃ fit.table fit.block w word there

    sent-accepted : merge_refusal t one two out ≡ 0
    sent-accepted = agreed-refusal t one two out fits sent-agrees

    sent-after : merge_after t one two out ≡ record { block = joined (merge_outcome t one two).block; map = (merge_outcome t one two).map }
    sent-after = after-accepted t one two out sent-accepted

    -- what is lost in the third map neither heard
    neither : (p : ℕ) → is_lost map₃ p ≡ true → (get_or one.map p 0 ≢ 0) × (get_or two.map p 0 ≢ 0)
    neither p e = ⊎_elim
        (λ h. lost-both (get_or one.map p 0) (get_or two.map p 0) (part_at (size t) p one.block) (part_at (size t) p two.block) (part_at (size t) p w) (right1 p h) (right2 p h) (sym (mark-is p h) ∙ eqb-true _ 1 e))
        (λ h. absurd (true≢false (sym e ∙ not-lost map₃ p (mark-beyond (places t) (size t) one two p h))))
        (side p (places t))

    lost-of : (b map : List ℕ) → Fitting t b map → (p : ℕ) → get_or map p 0 ≢ 0 → is_lost map p ≡ true
    lost-of b map k p ne = let m = byte_at (bytes-all map k.map-bytes) p in is_lost_lem map p (omega arith)

    -- so what one listener alone knows in the end is known
    kept : (b map : List ℕ) → Fitting t b map → ((p : ℕ) → is_lost map₃ p ≡ true → is_lost map p ≡ true)
        → (p : ℕ) → p < places t → is_lost (outcome t b map).map p ≡ false → get_or (merge_after t one two out).map p 0 ≢ 1
    kept b map k within p h e z = true≢false (sym (largest-within t map₃ map (is_lost (merge_outcome t one two).map) (is_lost (outcome t b map).map)
        (stays-lost t b₃ map₃ fit.map-length) (stays-lost t b map k.map-length) within p
        (is_lost_lem (merge_outcome t one two).map p (ap (λ (x : Held). get_or x.map p 0) (sym sent-after) ∙ z))) ∙ e)

    pub one-sent : OneSent t one two out w
    one-sent = record {
      not-refused = sent-accepted;
      no-clash-counted = rw sent-accepted (no-clashes (places t) (size t) one two
          (λ p h. no-clash (get_or one.map p 0) (get_or two.map p 0) (part_at (size t) p one.block) (part_at (size t) p two.block) (part_at (size t) p w) (right1 p h) (right2 p h)));
      values = λ p h e. ap (λ (x : Held). part_at (size t) p x.block) sent-after
          ∙ word-values t b₃ map₃ fit.table fit.block w word there p h (by_bool (is_lost (merge_outcome t one two).map p)
          (λ z. absurd (e (ap (λ (x : Held). get_or x.map p 0) sent-after ∙ eqb-true _ 1 z))) (λ z. z));
      first-kept = kept one.block one.map fits.first (λ p e. lost-of one.block one.map fits.first p (neither p e).0);
      second-kept = kept two.block two.map fits.second (λ p e. lost-of two.block two.map fits.second p (neither p e).1);
    }

  -- ---- an accepted call
  module _ (ok : merge_refusal t one two out ≡ 0) where
    f : FittingThree t one two out
    f = (accepted-fits t one two out ok).0

    g : Fitting t b₃ map₃
    g = third-fits t one two out f

    block-then : (merge_after t one two out).block ≡ joined (merge_outcome t one two).block
    block-then = ap (λ (x : Held). x.block) (after-accepted t one two out ok)

    map-then : (merge_after t one two out).map ≡ (merge_outcome t one two).map
    map-then = ap (λ (x : Held). x.map) (after-accepted t one two out ok)

    answer-then : merge_answer t one two out ≡ merge_answer_at 0 (kinds (size t) one two (places t)) (merge_outcome t one two) none
    answer-then = rw ok

    by : RestoredBy t b₃ map₃ (merge_after t one two out).block (merge_after t one two out).map
    by = rw (block-then, map-then) (old-repair t b₃ map₃ g.table g.block g.map-length (accepted-fits t one two out ok).1)

    pub accepted-merge : AcceptedMerge t one two out
    accepted-merge = record {
      counts-n = ap (λ (r : MergeAnswer). r.agreed + r.single + r.silent + r.clash) answer-then ∙ four-counts (places t) (size t) one two;
      received = λ p h e.
          let r = by.known p h (not-lost map₃ p (mark-is p h ∙ e)) in
          (r.0 ∙ merged-part (places t) (size t) one two f.first.block f.second.block p h, r.1 ∙ mark-is p h ∙ e);
      lost = λ p h e. by.lost p (is_lost_lem map₃ p (mark-is p h ∙ e));
      restored_by = by;
      restored = ap (λ (r : MergeAnswer). r.restored) answer-then ∙ ap (tally 2) (sym map-then);
      still = ap (λ (r : MergeAnswer). r.lost) answer-then ∙ ap (tally 1) (sym map-then);
      counts = ap (λ (r : MergeAnswer). r.restored + r.lost) answer-then ∙ ap (λ l. tally 2 l + tally 1 l) (sym map-then) ∙ by.counts
          ∙ none-two ∙ lost-counts (places t) (size t) one two ∙ sym (ap (λ (r : MergeAnswer). r.silent + r.clash) answer-then);
      no-fault = (ap (λ (r : MergeAnswer). r.check) answer-then, ap (λ (r : MergeAnswer). r.byte) answer-then);
      whole = λ e. by.whole (ap (tally 1) map-then ∙ sym (ap (λ (r : MergeAnswer). r.lost) answer-then) ∙ e);
    }
      where
        none-two : tally 2 map₃ + tally 1 map₃ ≡ tally 1 map₃
        none-two = let z = tally-restored map₃ ∙ none-restored (bytes-all map₃ g.map-bytes) in omega arith

  -- ---- a contradicted one
  pub contradicted-merge : merge_refusal t one two out ≡ 8 → ContradictedMerge t one two out
  contradicted-merge h = record {
    answer = is-refused;
    first = first-fault (none_lost (merge_outcome t one two).map) (size t) (merge_outcome t one two).block (sized t b₃ map₃ fit₃) (checks t) (low t b₃ map₃ fit₃) (reported t one two out) is-reported;
    marks = λ p l. ap (λ (x : Held). get_or x.map p 0) after ∙ mark-is p l;
    packets = packets-are;
    zeroed = λ p l e. packets-are p l ∙ lost-zero (size t) (heard_at (size t) one two p) (sym (ap (λ (x : Held). get_or x.map p 0) after ∙ mark-is p l) ∙ e);
    no-codeword = λ w word right1 right2. true≢false (sym (sent-agrees fits w word right1 right2) ∙ bad);
  }
    where
      fits : FittingThree t one two out
      fits = (contradicted-fits t one two out h).0

      bad : calm t one two out ≡ false
      bad = (contradicted-fits t one two out h).1

      fit₃ : Fitting t b₃ map₃
      fit₃ = third-fits t one two out fits

      after : merge_after t one two out ≡ third t one two
      after = after-contradicted t one two out h

      is-refused : merge_answer t one two out ≡ refused_with 8 (reported t one two out).check (reported t one two out).byte
      is-refused = rw h

      is-reported : merge_fault t one two ≡ some (reported t one two out)
      is-reported = some-fault (merge_fault t one two) bad ∙ rw h

      packets-are : (p : ℕ) → p < places t → part_at (size t) p (merge_after t one two out).block ≡ packet_of (size t) (heard_at (size t) one two p)
      packets-are p l = ap (λ (x : Held). part_at (size t) p x.block) after ∙ merged-part (places t) (size t) one two fits.first.block fits.second.block p l

-- ---- any other refusal: all else is 0, and the third block and map are as they were
pub refused-merge : (t : List ℕ) (one two out : Held) → merge_refusal t one two out ≢ 0 → merge_refusal t one two out ≢ 8
    → (merge_answer t one two out ≡ refused_with (merge_refusal t one two out) 0 0) × (merge_after t one two out ≡ out)
refused-merge t one two out n0 n8 =
    let r = merge_refusal t one two out in
    let e8 = ne_eqb r 8 n8 in
    (ap (merge_answer_at r k m) (none-handed r (merge_fault t one two) e8) ∙ at r n0, after-refused t one two out r refl (ne_eqb r 0 n0) e8)
  where
    k : List ℕ
    k = kinds (size t) one two (places t)

    m : State
    m = merge_outcome t one two

    at : (r : ℕ) → r ≢ 0 → merge_answer_at r k m none ≡ refused_with r 0 0
    at zero n = absurd (n refl)
    at (suc r) n = refl

-- ---- what doesn't count
-- the same answer, and the same third block and map
pub record SameMerge (t : List ℕ) (one two out three four room : Held) : Type 0 where
  pub answer : merge_answer t one two out ≡ merge_answer t three four room
  pub after : merge_after t one two out ≡ merge_after t three four room

-- the third block and map are output: where none of 1 to 7 refuses, what they held never counts
pub third-never-counts : (t : List ℕ) (one two out room : Held) → FittingThree t one two out → FittingThree t one two room → SameMerge t one two out one two room
third-never-counts t one two out room f g = by_bool (calm t one two out)
    (λ e. let x = agreed-refusal t one two out f e in let y = agreed-refusal t one two room g e in
    record { answer = rw (x, y); after = after-accepted t one two out x ∙ sym (after-accepted t one two room y) })
    (λ e. let x = contradicted-refusal t one two out f e in let y = contradicted-refusal t one two room g e in
    record { answer = rw (x, y); after = after-contradicted t one two out x ∙ sym (after-contradicted t one two room y) })

-- ---- calls with the same kinds, merged block and map, and causes 5 and 7
same-call : (t : List ℕ) (one two out three four : Held) → kinds (size t) one two (places t) ≡ kinds (size t) three four (places t) → third t one two ≡ third t three four
    → wrong_any t one two out ≡ wrong_any t three four out → over_either one two ≡ over_either three four → SameMerge t one two out three four out
unfolding merge_refusal
same-call t one two out three four k m w o =
    let r : merge_refusal t one two out ≡ merge_refusal t three four out = refusals in
    record {
      answer = ap₂ (λ c x. merge_answer_at c x (merge_outcome t one two) (handed_on c (merge_fault t one two))) r k
          ∙ ap (λ (x : Held). merge_answer_at (merge_refusal t three four out) (kinds (size t) three four (places t)) (outcome t x.block x.map) (handed_on (merge_refusal t three four out) (contradicting t x.block x.map))) m;
      after = ap₂ (λ c x. after_by c x) r m;
    }
  where
    -- the third block and map by the refusal and what was merged
    after_by : ℕ → Held → Held
    after_by c x = elim (eqb c 0) [ true ↦ record { block = joined (outcome t x.block x.map).block; map = (outcome t x.block x.map).map } | false ↦ elim (eqb c 8) [ true ↦ x | false ↦ out ] ]

    refusals : merge_refusal t one two out ≡ merge_refusal t three four out
    refusals = ap₂ (λ a b. first_cause (table_causes t ++ ((a, 5) ∷ (b, 7) ∷ (not (agreeing t (third t one two).block (third t one two).map), 8) ∷ []))) w o
        ∙ ap (λ (x : Held). first_cause (table_causes t ++ ((wrong_any t three four out, 5) ∷ (over_either three four, 7) ∷ (not (agreeing t x.block x.map), 8) ∷ []))) m

-- nor which listener is the first
pub listeners-exchanged : (t : List ℕ) (one two out : Held) → SameMerge t one two out two one out
listeners-exchanged t one two out = let m = merged-exchanged (places t) (size t) one two in
    same-call t one two out two one m.0 m.1 (or-exchange (wrong_lengths t one.block one.map) (wrong_lengths t two.block two.map) (wrong_lengths t out.block out.map)) (or_comm (byte_over one.map) (byte_over two.map))

-- nor a listener's bytes at places that its map has as lost
pub unheard-never-count : (t : List ℕ) (one two out three four : Held) → SameHeard (places t) (size t) one three → SameHeard (places t) (size t) two four
    → length one.block ≡ length three.block → length two.block ≡ length four.block → SameMerge t one two out three four out
unheard-never-count t one two out three four first second long1 long2 = let m = merged-alike (places t) (size t) one two three four first second in
    same-call t one two out three four m.0 m.1
    (ap₂ (λ x y. x || (y || wrong_lengths t out.block out.map))
    (ap₂ (λ k l. wrong_length k (places t * size t) || wrong_length (length l) (places t)) long1 first.marks)
    (ap₂ (λ k l. wrong_length k (places t * size t) || wrong_length (length l) (places t)) long2 second.marks))
    (ap₂ (λ k l. byte_over k || byte_over l) first.marks second.marks)
