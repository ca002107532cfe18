-- For the planning desk (document 02, C-23, "What more rain can't do"): facts about the old repair: `outcome`, what restoring comes to, before it
-- is judged whether packets contradict. Lost places, turns and additions depend on no packet. The block is the same in every order where packets
-- don't contradict; those of one codeword never do, and then the call of repair leaves what the old repair comes to.
use Rattle.std.specs.Prelude.{◌≡◌, refl, true, false, List, ◌≢◌, ◌⊎◌, ℕ, zero, suc, ◌+◌, ◌-◌, ◌*◌, ◌<◌, ◌≤◌, length, get_or}
use Rattle.std.proofs.Common.{sym, ap, ap₂, ◌∙◌, subst, true≢false, arith}
use Rattle.erasure.proofs.Additions.{turns-most}
use Rattle.erasure.proofs.Alike.{Alike, TakesAlike, outcome-alike, turns-alike}
use Rattle.erasure.proofs.AnyOrder.{end-within, end-map, end-block, end-judged}
use Rattle.erasure.proofs.Largest.{repaired-ends}
use Rattle.erasure.specs.LostLaws.{is_lost_lem, lost-most, lost-fewer}
use Rattle.erasure.specs.Offered.{Held, handed_on, Fitting, Agree}
use Rattle.erasure.proofs.OfferedLaws.{bytes-all, lost-byte}
use Rattle.erasure.proofs.OrderLaws.{ended-stays, goes_on, restoring-turns, restoring-ends, turns_then, turns-map, turns-taken, turns-spend}
use Rattle.erasure.specs.Orders.{Ready, Turns, taken, spent, Ended, non_empty, FromStart}
use Rattle.erasure.proofs.OutcomeLaws.{tally-lost, start-length, start-sized}
use Rattle.erasure.specs.Restoring.{State, is_lost, restoring, start, consistent, tally, outcome, contradicting, agreeing, counts_if, map_if}
use Rattle.aerials.specs.Aerials.{kinds}
use Rattle.entering.specs.Entering.{entered}
use Rattle.faults.proofs.FaultLaws.{no-fault}
use Rattle.lengthen.specs.Lengthen.{lengthen_outcome, lengthen_fault, lengthen_refusal, lengthen_answer_at, lengthen_answer}
use Rattle.lists.specs.Lists.{In}
use Rattle.lists.specs.Tests.{eqb-true, by_bool}
use Rattle.merge.specs.Merge.{third, merge_outcome, merge_fault, merge_refusal, merge_answer_at, merge_answer}
use Rattle.repair.specs.Repair.{believed, repair_outcome, repair_refusal, repair_answer_at, repair_answer, repair_block_after, repair_map_after}
use Rattle.repair.proofs.RepairTheorems.{Repairing, answer_by, accepted-plainly, plainly, repairing}
use Rattle.suspects.specs.Blame.{blamed}
use Rattle.suspects.proofs.BlameLaws.{agreed-none}
use Rattle.table.specs.Codewords.{IsCodeword}
use Rattle.table.specs.PacketCall.{part_at}
use Rattle.table.specs.Packets.{packets, joined}
use Rattle.table.specs.Table.{places, size, checks, ones_count, refusal}
use Rattle.table.specs.TableLaws.{accepted}

-- ---- the old repair is one of the orders, and comes to its end
module _ (t b map : List ℕ) where
  pub old-order : FromStart t b map (outcome t b map)
  old-order = restoring-turns (places t) (size t) (checks t) _

  pub old-ends : length map ≡ places t → Ended (checks t) (outcome t b map)
  old-ends = repaired-ends (places t) (size t) (checks t) _ map

-- ---- "Receiving more places never leaves a place lost that was known with fewer": whatever the packets b and c, if every place that is lost with
-- more received is lost with fewer, then it is so after restoring
module _ (t b c fewer more : List ℕ) (long : length more ≡ places t) (within : (p : ℕ) → is_lost more p ≡ true → is_lost fewer p ≡ true) where
  still-within : (p : ℕ) → is_lost (outcome t c more).map p ≡ true → is_lost (outcome t b fewer).map p ≡ true
  still-within = end-within (old-order t c more) (old-ends t c more long) (old-order t b fewer) within

  pub more-received : (p : ℕ) → is_lost (outcome t b fewer).map p ≡ false → is_lost (outcome t c more).map p ≡ false
  more-received p known = by_bool (is_lost (outcome t c more).map p) (λ z. absurd (true≢false (sym (still-within p z) ∙ known))) (λ z. z)

  -- nor more places in all
  pub fewer-lost : tally 1 (outcome t c more).map ≤ tally 1 (outcome t b fewer).map
  fewer-lost = rw (tally-lost (outcome t c more).map, tally-lost (outcome t b fewer).map) (lost-fewer (outcome t c more).map (outcome t b fewer).map still-within)

-- ---- "Whichever check with one lost place is taken at each turn"
-- every order ends: each turn restores a lost place, so no order has more turns than places were lost ..
pub every-order-ends : (t b map : List ℕ) {e : State} (u : FromStart t b map e) → length (taken u) + tally 1 e.map ≡ tally 1 map
every-order-ends t b map {e} u = ap (λ k. length (taken u) + k) (tally-lost e.map) ∙ turns-taken u ∙ sym (tally-lost map)

-- .. in every state a turn can be taken, or no check has exactly one lost place ..
pub order-goes-on : (t : List ℕ) (e : State) → ((c : List ℕ) × (In c (checks t) × Ready e.map c)) ⊎ Ended (checks t) e
order-goes-on t e = goes_on (checks t) e

-- .. and then none can
pub order-stops : (t : List ℕ) (s : ℕ) {e f : State} → Ended (checks t) e → Turns s (checks t) e f → f ≡ e
order-stops t s end u = ended-stays end u

-- at its end every order has the old repair's map, so the same lost places ..
pub same-marks : (t b map : List ℕ) → length map ≡ places t → {e : State} → FromStart t b map e → Ended (checks t) e → e.map ≡ (outcome t b map).map
same-marks t b map long u end = end-map u end (old-order t b map) (old-ends t b map long) refl

-- .. and the same number of turns: one for each place that is restored
pub same-turns : (t b map : List ℕ) → length map ≡ places t → {e : State} (u : FromStart t b map e) → Ended (checks t) e → length (taken u) + tally 1 (outcome t b map).map ≡ tally 1 map
same-turns t b map long u end = ap (λ l. length (taken u) + tally 1 l) (sym (same-marks t b map long u end)) ∙ every-order-ends t b map u

-- the end e of an order, against the old repair's
pub record SameEnd (t b map : List ℕ) (e : State) : Type 0 where
  -- the same marks, so the same lost places
  pub marks : e.map ≡ (outcome t b map).map
  -- packets contradict exactly if they do in the old repair
  pub judged : consistent (size t) (checks t) e ≡ agreeing t b map
  -- "the final block is the same", where they don't
  pub block : agreeing t b map ≡ true → e.block ≡ (outcome t b map).block

pub any_order : (t b map : List ℕ) → refusal t ≡ 0 → length b ≡ places t * size t → length map ≡ places t
    → {e : State} → FromStart t b map e → Ended (checks t) e → SameEnd t b map e
any_order t b map ok fits long u end =
    let low = (accepted t ok).low in
    let begins = start-length t b map ok fits in
    let sized = start-sized t b map ok fits in
    record {
      marks = same-marks t b map long u end;
      judged = end-judged (places t) (size t) (checks t) low _ begins sized u end (old-order t b map) (old-ends t b map long);
      block = λ calm. sym (end-block (places t) (size t) (checks t) low _ begins sized (old-order t b map) (old-ends t b map long) u end calm);
    }

-- and wherever an order stands, the old repair goes on from there to the same end
pub from-anywhere : (t b map : List ℕ) → refusal t ≡ 0 → length b ≡ places t * size t → length map ≡ places t
    → {e : State} → FromStart t b map e → SameEnd t b map (restoring (places t) (size t) (checks t) e)
from-anywhere t b map ok fits long {e} u =
    let most = lost-most e.map in
    let same = turns-map u in
    any_order t b map ok fits long (turns_then u (restoring-turns (places t) (size t) (checks t) e)) (restoring-ends (places t) (size t) (checks t) e (omega arith))

-- ---- "Repair additions are at most W0 less the number of checks that aren't empty"
-- the additions of an order are "weight − 1 for each check used" ..
pub order-spends : (t b map : List ℕ) {e : State} (u : FromStart t b map e) → e.adds ≡ spent (taken u)
order-spends t b map u = let h = turns-spend u in omega arith

-- .. and within the bound, at its end and before
pub order-additions : (t b map : List ℕ) → refusal t ≡ 0 → {e : State} → FromStart t b map e → e.adds + non_empty (checks t) ≤ ones_count t
order-additions t b map ok u = let h = turns-most u in let w = (accepted t ok).all_ones in omega arith

-- so are the old repair's
pub additions-most : (t b map : List ℕ) → refusal t ≡ 0 → (outcome t b map).adds + non_empty (checks t) ≤ ones_count t
additions-most t b map ok = order-additions t b map ok (old-order t b map)

-- and what calls report, for every block and map, refused or not: repair, with a blamed place too; merging; lengthening, by the new table
by_number : (P : ℕ → Type 0) → P 0 → ((r : ℕ) → P (suc r)) → (r : ℕ) → P r
by_number P z h zero = z
by_number P z h (suc r) = h r

pub reported-most : (t b map : List ℕ) → refusal t ≡ 0 → (repair_answer t b map).additions + non_empty (checks t) ≤ ones_count t
reported-most t b map ok = let h = additions-most t b (believed (blamed t b map) map) ok in
    by_number (λ r. (repair_answer_at r (repair_outcome t b map) (handed_on (repair_refusal t b map) (contradicting t b map))).additions + non_empty (checks t) ≤ ones_count t)
    h (λ r. omega arith) (repair_refusal t b map)

pub merged-most : (t : List ℕ) (one two out : Held) → refusal t ≡ 0 → (merge_answer t one two out).additions + non_empty (checks t) ≤ ones_count t
merged-most t one two out ok = let h = additions-most t (third t one two).block (third t one two).map ok in
    by_number (λ r. (merge_answer_at r (kinds (size t) one two (places t)) (merge_outcome t one two) (handed_on (merge_refusal t one two out) (merge_fault t one two))).additions + non_empty (checks t) ≤ ones_count t)
    h (λ r. omega arith) (merge_refusal t one two out)

pub lengthened-most : (old new : List ℕ) (carried arrivals : Held) → refusal new ≡ 0 → (lengthen_answer old new carried arrivals).additions + non_empty (checks new) ≤ ones_count new
lengthened-most old new carried arrivals ok =
    let first = entered (size new) (places old) carried arrivals (places new) in
    let h = additions-most new first.block first.map ok in
    by_number (λ r. (lengthen_answer_at r first.map (lengthen_outcome old new carried arrivals) (handed_on (lengthen_refusal old new carried arrivals) (lengthen_fault old new carried arrivals))).additions + non_empty (checks new) ≤ ones_count new)
    h (λ r. omega arith) (lengthen_refusal old new carried arrivals)

-- ---- "and depend on table and map only"; restored and lost too: two repairs by tables alike in places and checks, with the same map, whatever
-- the packets and their size, if packets contradict in neither
module _ (t u b c map : List ℕ) (same-places : places t ≡ places u) (same-checks : checks t ≡ checks u) where
  alike : Alike (outcome t b map) (outcome u c map)
  alike = outcome-alike t u b c map same-places same-checks

  -- map and additions, also where they contradict
  pub map-alike : (outcome t b map).map ≡ (outcome u c map).map
  map-alike = alike.map-alike

  pub additions-alike : (outcome t b map).adds ≡ (outcome u c map).adds
  additions-alike = alike.adds-alike

  -- and of every order: the same checks can be taken, with the same map and additions after them
  pub order_alike : {e : State} (w : FromStart t b map e) → TakesAlike (size u) (checks u) (start (size u) (packets (size u) (places u) c) map) (taken w) e
  order_alike {e} w =
      let other = start (size u) (packets (size u) (places u) c) map in
      subst (λ ds. TakesAlike (size u) ds other (taken w) e) same-checks (turns-alike w (size u) other (record { map-alike = refl; adds-alike = refl }))

  module _ (calm : agreeing t b map ≡ true) (calm-too : agreeing u c map ≡ true) where
    -- what is told
    pub counts-alike : counts_if (contradicting t b map) map (outcome t b map) ≡ counts_if (contradicting u c map) map (outcome u c map)
    counts-alike = ap (λ f. counts_if f map (outcome t b map)) (no-fault (contradicting t b map) calm)
        ∙ ap₂ (λ l x. record { agrees = true; restored = tally 1 map - tally 1 l; lost = tally 1 l; additions = x; check = 0; byte = 0 }) map-alike additions-alike
        ∙ sym (ap (λ f. counts_if f map (outcome u c map)) (no-fault (contradicting u c map) calm-too))

    -- what the call answers, and the map that it leaves
    pub report-alike : Fitting t b map → Fitting u c map → (repair_answer t b map ≡ repair_answer u c map) × (repair_map_after t b map ≡ repair_map_after u c map)
    report-alike fits fits-too =
        let old = plainly t b map fits (agreed-none t b map calm) in
        let too = plainly u c map fits-too (agreed-none u c map calm-too) in (
          old.answer ∙ ap answer_by counts-alike ∙ sym too.answer,
          old.marks ∙ ap (λ v. map_if v t b map) calm ∙ map-alike ∙ sym (too.marks ∙ ap (λ v. map_if v u c map) calm-too),
        )

  -- so always with packets from codewords w of the one table and v of the other
  pub report-alike-sent : (w v : List ℕ) → IsCodeword t w → IsCodeword u v → Fitting t b map → Agree t b map w → Fitting u c map → Agree u c map v
      → (repair_answer t b map ≡ repair_answer u c map) × (repair_map_after t b map ≡ repair_map_after u c map)
  report-alike-sent w v word word-too fits agree fits-too agree-too =
      report-alike (repairing t b map w fits word agree).agrees (repairing u c map v fits-too word-too agree-too).agrees fits fits-too

-- ---- "for packets from one codeword", in the words of the call
module _ (t w : List ℕ) (word : IsCodeword t w) where
  -- any order of turns gives the call's block and map
  pub any-order-sent : (b map : List ℕ) → Fitting t b map → Agree t b map w → {e : State} → FromStart t b map e → Ended (checks t) e
      → (joined e.block ≡ repair_block_after t b map) × (e.map ≡ repair_map_after t b map)
  any-order-sent b map fits agree u end =
      let r = repairing t b map w fits word agree in
      let same = any_order t b map fits.table fits.block fits.map-length u end in
      (ap joined (same.block r.agrees) ∙ sym r.block, same.marks ∙ sym r.marks)

  -- a place known with fewer received is known with more, as it was sent; and no more stay lost
  module _ (b fewer c more : List ℕ) (fits : Fitting t b fewer) (agree : Agree t b fewer w) (fits-too : Fitting t c more) (agree-too : Agree t c more w)
      (within : (p : ℕ) → get_or fewer p 0 ≡ 0 → get_or more p 0 ≡ 0) where
    lost-within : (p : ℕ) → is_lost more p ≡ true → is_lost fewer p ≡ true
    lost-within p z = by_bool (is_lost fewer p) (λ y. y)
        (λ y. let received = within p (lost-byte (bytes-all fewer fits.map-bytes) p y) in
        let one = eqb-true (get_or more p 0) 1 z in absurd (omega arith))

    r : Repairing t b fewer w
    r = repairing t b fewer w fits word agree

    r-too : Repairing t c more w
    r-too = repairing t c more w fits-too word agree-too

    pub more-received-sent : (p : ℕ) → p < places t → get_or (repair_map_after t b fewer) p 0 ≢ 1
        → (get_or (repair_map_after t c more) p 0 ≢ 1) × (part_at (size t) p (repair_block_after t c more) ≡ part_at (size t) p w)
    more-received-sent p h known = (still, r-too.values p h still)
      where
        still : get_or (repair_map_after t c more) p 0 ≢ 1
        still one = known (ap (λ l. get_or l p 0) r.marks ∙ eqb-true _ 1 (still-within t b c fewer more fits-too.map-length lost-within p
            (is_lost_lem (outcome t c more).map p (ap (λ l. get_or l p 0) (sym r-too.marks) ∙ one))))

    pub fewer-lost-sent : (repair_answer t c more).lost ≤ (repair_answer t b fewer).lost
    fewer-lost-sent =
        let less = fewer-lost t b c fewer more fits-too.map-length lost-within in
        let one = (accepted-plainly t b fewer fits r.agrees).lost ∙ ap (tally 1) r.marks in
        let two = (accepted-plainly t c more fits-too r-too.agrees).lost ∙ ap (tally 1) r-too.marks in
        omega arith
