-- A longer table in the middle of a pass, over the calls (document 02, C-22): repaired under the old table, carried over, and gone on with;
-- against the call of repair under the new table. And the same of the block that planning the new table and then encoding gives.
use Rattle.std.specs.Prelude.{◌≡◌, true, List, ◌≢◌, ℕ, ◌*◌, ◌<◌, ◌≤◌, ltb, length, get_or, take}
use Rattle.std.proofs.Common.{sym, ap, ◌∙◌, subst, ⊎_elim, arith, le-ltb, ne_eqb, length-take, get_or-take}
use Rattle.erasure.specs.Offered.{Held, held, Fitting, Agree}
use Rattle.erasure.proofs.OfferedLaws.{bytes-all, lost-byte}
use Rattle.erasure.proofs.OldRepair.{RestoredBy, old-repair}
use Rattle.erasure.specs.Restoring.{outcome, is_lost}
use Rattle.lengthen.specs.AsIfFresh.{as-if-fresh, word-then}
use Rattle.lengthen.specs.Carrying.{Carried, SoFar, Grown}
use Rattle.lengthen.specs.FirstPackets.{first_of, first-codeword, first-agrees, so-far-agrees}
use Rattle.lengthen.specs.Lengthen.{lengthen_refusal, lengthen_after, LengthenFitting}
use Rattle.lengthen.specs.LengthenLaws.{after-accepted}
use Rattle.lengthen.specs.Twice.{grown-carried}
use Rattle.lists.specs.ListLaws.{all-index, any_none}
use Rattle.lists.specs.Tests.{by_bool}
use Rattle.longer.specs.Longer.{lengthens}
use Rattle.longer.specs.LongerLaws.{lengthens-facts}
use Rattle.repair.specs.Repair.{repair_refusal, repair_block_after, repair_map_after}
use Rattle.repair.proofs.RepairTheorems.{repairing}
use Rattle.table.specs.Codewords.{IsCodeword}
use Rattle.table.specs.PacketCall.{part_at}
use Rattle.table.specs.Packets.{joined}
use Rattle.table.specs.Table.{places, size, at_size}
use Rattle.planning.specs.Planning.{planning_refusal}
use Rattle.theorems.specs.Demands.{handed, ToTheLastStep, encoding-codeword}
use Rattle.theorems.specs.Week.{Arrives, sent, arrives-fitting}

-- what repair leaves in block and map
abbrev pub after_repair : List ℕ → Held → Held
after_repair t h = held (repair_block_after t h.block h.map) (repair_map_after t h.block h.map)

-- "Block and set of lost places are those of a fresh repair under the new table with all packets received so far"
pub record LongerTable (old new : List ℕ) (carried arrivals all : Held) (w : List ℕ) : Type 0 where
  pub not-refused : lengthen_refusal old new carried arrivals ≡ 0
  pub fresh-accepted : repair_refusal new all.block all.map ≡ 0
  pub block : (lengthen_after old new carried arrivals).block ≡ (after_repair new all).block
  pub lost : (p : ℕ) → is_lost (lengthen_after old new carried arrivals).map p ≡ is_lost (after_repair new all).map p
  -- every packet that isn't lost is as it was sent
  pub values : (p : ℕ) → p < places new → get_or (lengthen_after old new carried arrivals).map p 0 ≢ 1 → part_at (size new) p (lengthen_after old new carried arrivals).block ≡ part_at (size new) p w

-- ---- where packets are a codeword's, the call of repair leaves what the old repair leaves
module _ (t : List ℕ) (h : Held) (w : List ℕ) (f : Fitting t h.block h.map) (word : IsCodeword t w) (right : Agree t h.block h.map w) where
  block-is : (after_repair t h).block ≡ joined (outcome t h.block h.map).block
  block-is = (repairing t h.block h.map w f word right).block

  map_is : (after_repair t h).map ≡ (outcome t h.block h.map).map
  map_is = (repairing t h.block h.map w f word right).marks

  -- so it can be carried over
  repaired-carried : Carried t (after_repair t h) h
  repaired-carried = record { lost = λ p i. ap (λ m. is_lost m p) map_is; packet = λ p i e. ap (part_at (size t) p) block-is }

  -- its marks are 0, 1 and 2
  marks-low : (p : ℕ) → p < places t → get_or (after_repair t h).map p 0 ≤ 2
  marks-low p i =
      let r = repairing t h.block h.map w f word right in
      let by : RestoredBy t h.block h.map (joined (outcome t h.block h.map).block) (outcome t h.block h.map).map = old-repair t h.block h.map f.table f.block f.map-length r.agrees in
      let e : get_or (after_repair t h).map p 0 ≡ get_or (outcome t h.block h.map).map p 0 = ap (λ m. get_or m p 0) map_is in
      by_bool (is_lost h.map p)
      (λ z. ⊎_elim (λ y. omega arith) (λ y. omega arith) (by.lost p z))
      (λ z. let y = (by.known p i z).1 in let x = lost-byte (bytes-all h.map f.map-bytes) p z in omega arith)

-- ---- repaired under the old table, grown to the new lengths, and gone on with
module _ (old new : List ℕ) (first grown arrivals all : Held) (w : List ℕ) (longer : lengthens old new ≡ true) (word : IsCodeword new w)
    (received : Fitting old first.block first.map) (right : Agree old first.block first.map w)
    (grows : Grown old (after_repair old first) grown) (bytes : length grown.block ≡ places new * size new) (marks : length grown.map ≡ places new)
    (arrived : Fitting new arrivals.block arrivals.map) (arrive : Agree new arrivals.block arrivals.map w) (so_far : SoFar old new first arrivals all) where
  right-old : Agree old first.block first.map (first_of old w)
  right-old = first-agrees old first.block first.map w right

  old-word : IsCodeword old (first_of old w)
  old-word = first-codeword old new w received.table (lengthens-facts old new longer) word

  -- nothing before 8 refuses
  fits : LengthenFitting old new grown arrivals
  fits = record {
    old-table = received.table;
    new-table = arrived.table;
    block-length = bytes;
    map-length = marks;
    arrivals-length = arrived.block;
    arrived-length = arrived.map-length;
    longer = longer;
    carried-bytes = any_none (ltb 2) (all-index (take (places old) grown.map) (λ k h.
        let i : k < places old = omega (arith, length-take (places old) grown.map) in
        le-ltb 2 _ (subst (λ x. x ≤ 2) (sym (get_or-take (places old) grown.map k 0 i ∙ grows.marks k i)) (marks-low old first (first_of old w) received old-word right-old k i))));
    arrived-bytes = arrived.map-bytes;
  }

  was : Carried old grown first
  was = grown-carried old (after_repair old first) grown first (repaired-carried old first (first_of old w) received old-word right-old) grows

  all-right-too : Agree new all.block all.map w
  all-right-too = so-far-agrees old new first arrivals all w (lengthens-facts old new longer).same_size so_far right arrive

  pub longer-table : LongerTable old new grown arrivals all w
  longer-table =
      let fresh = as-if-fresh old new grown arrivals first w fits word received right was arrive all so_far in
      let after = after-accepted old new grown arrivals fresh.not-refused in
      record {
        not-refused = fresh.not-refused;
        fresh-accepted = (repairing new all.block all.map w so_far.fits word all-right-too).not-refused;
        block = fresh.block ∙ sym (block-is new all w so_far.fits word all-right-too);
        lost = λ p. fresh.lost p ∙ sym (ap (λ m. is_lost m p) (map_is new all w so_far.fits word all-right-too));
        values = λ p i n. ap (λ (x : Held). part_at (size new) p x.block) after
            ∙ word-then old new grown arrivals first w fits word received right was arrive p i (ne_eqb _ 1 (λ z. n (ap (λ (x : Held). get_or x.map p 0) after ∙ z)));
      }

-- the week with a table that grows: the new table planned, encoded to the last step at any size; first places of the block heard under the old
-- table and repaired, then grown, and the others heard under the new one
pub longer-week : (old t plan_buffer work : List ℕ) (s : ℕ) (information block_buffer scratch_buffer : List ℕ) (limit : ℕ) (first grown arrivals all : Held)
    → planning_refusal t plan_buffer work ≡ 0
    → ToTheLastStep t (handed t plan_buffer work) s information block_buffer scratch_buffer limit
    → lengthens old (at_size s t) ≡ true
    → Fitting old first.block first.map
    → Agree old first.block first.map (sent t plan_buffer work s information block_buffer scratch_buffer limit)
    → Grown old (after_repair old first) grown
    → length grown.block ≡ places (at_size s t) * size (at_size s t) → length grown.map ≡ places (at_size s t)
    → Arrives (at_size s t) (sent t plan_buffer work s information block_buffer scratch_buffer limit) arrivals.block arrivals.map
    → SoFar old (at_size s t) first arrivals all
    → LongerTable old (at_size s t) grown arrivals all (sent t plan_buffer work s information block_buffer scratch_buffer limit)
longer-week old t plan_buffer work s information block_buffer scratch_buffer limit first grown arrivals all planned lent longer received right grows bytes marks arrives so_far =
    longer-table old (at_size s t) first grown arrivals all (sent t plan_buffer work s information block_buffer scratch_buffer limit) longer
    (encoding-codeword t plan_buffer work planned s information block_buffer scratch_buffer limit lent) received right grows bytes marks
    (arrives-fitting t plan_buffer work s information block_buffer scratch_buffer limit arrivals.block arrivals.map planned lent arrives) arrives.as-sent so_far
