-- "Block and set of lost places are those of a fresh repair under the new table with all packets received so far. This holds if the carried
-- block and set of lost places are the old repair's under the old table and all packets received agree with one codeword of the new."
use Rattle.std.specs.Prelude.{◌≡◌, refl, Bool, true, false, ◌&&◌, List, ℕ, ◌*◌, ◌<◌, ltb, length, get_or}
use Rattle.std.proofs.Common.{sym, ap, ap₂, ◌∙◌, subst, ⊎_elim, arith, ltb-true, lt-ltb}
use Rattle.entering.specs.EnteredLaws.{Lacking, lost-lacks, lacks-lost}
use Rattle.entering.specs.EntryLaws.{carried-old, carried-new}
use Rattle.erasure.proofs.Largest.{stays-lost, largest-within}
use Rattle.erasure.specs.LostLaws.{is_lost_lem, lost-inside}
use Rattle.erasure.specs.Offered.{Held, Fitting, Agree}
use Rattle.erasure.proofs.OfferedLaws.{bytes-all, lost-byte, agree-there}
use Rattle.erasure.proofs.OldRepair.{RestoredBy, old-repair, word-agrees, word-values}
use Rattle.erasure.proofs.OutcomeLaws.{outcome-length, outcome-sized}
use Rattle.erasure.specs.Restoring.{AgreeThere, outcome, agreeing, is_lost, Stopping, Largest}
use Rattle.lengthen.specs.Carrying.{Carried, SoFar}
use Rattle.lengthen.specs.FirstPackets.{first_of, first_part, first-codeword, first-agrees, so-far-agrees}
use Rattle.lengthen.specs.Lengthen.{start, lengthen_outcome, lengthen_refusal, lengthen_after, calm, LengthenFitting}
use Rattle.lengthen.specs.LengthenLaws.{agreed-refusal, after-accepted, start-block, start-map, entered-there}
use Rattle.lists.specs.ListLaws.{all_map, all-zip, filter_same}
use Rattle.lists.specs.Tests.{eqb-true, by_bool, both_ways, and_l, and_r, side}
use Rattle.longer.specs.Longer.{Lengthens}
use Rattle.longer.specs.LongerLaws.{lengthens-facts, old-checks}
use Rattle.table.specs.Codewords.{IsCodeword}
use Rattle.table.specs.PacketCall.{part_at}
use Rattle.table.specs.PacketLaws.{joined_length, same-packets}
use Rattle.table.specs.Packets.{joined}
use Rattle.table.specs.Table.{places, size, checks}
use Rattle.table.specs.TableLaws.{accepted}

-- as a fresh repair under the new table of all packets received so far
pub record AsIfFresh (old new : List ℕ) (carried arrivals all : Held) : Type 0 where
  -- the call isn't refused, not with 8 either, and neither is the fresh repair
  pub not-refused : lengthen_refusal old new carried arrivals ≡ 0
  pub fresh-agrees : agreeing new all.block all.map ≡ true
  -- the same block, and the same places are lost
  pub block : (lengthen_after old new carried arrivals).block ≡ joined (outcome new all.block all.map).block
  pub lost : (p : ℕ) → is_lost (lengthen_after old new carried arrivals).map p ≡ is_lost (outcome new all.block all.map).map p

drop-and : (x : Bool) {y : Bool} → y ≡ true → x ≡ (x && y)
drop-and true e = sym e
drop-and false e = refl

module _ (old new : List ℕ) (carried arrivals first : Held) (w : List ℕ) (f : LengthenFitting old new carried arrivals) (word : IsCodeword new w)
    (offered : Fitting old first.block first.map) (right : Agree old first.block first.map w) (was : Carried old carried first) (arrive : Agree new arrivals.block arrivals.map w) where
  l : Lengthens old new
  l = lengthens-facts old new f.longer

  -- block and map as entered
  abbrev b : List ℕ
  b = (start old new carried arrivals).block

  abbrev map : List ℕ
  map = (start old new carried arrivals).map

  -- ---- packets
  -- what was received at first is the word's first packets
  first-there : AgreeThere old first.block first.map (first_of old w)
  first-there = agree-there old first.block first.map offered (first_of old w) (first-agrees old first.block first.map w right)

  -- so is what is carried as known
  carried-word : (p : ℕ) → p < places old → is_lost carried.map p ≡ false → part_at (size new) p carried.block ≡ part_at (size new) p w
  carried-word p h e = subst (λ s. part_at s p carried.block ≡ part_at s p w) l.same_size
      (was.packet p h e
      ∙ word-values old first.block first.map f.old-table offered.block (first_of old w) (first-codeword old new w f.old-table l word) first-there p h (sym (was.lost p h) ∙ e)
      ∙ first_part old w p h)

  -- after entering every known packet is the word's
  start-there : AgreeThere new b map w
  start-there = entered-there old new carried arrivals f w carried-word arrive

  -- so nothing contradicts
  start-agrees : calm old new carried arrivals ≡ true
  start-agrees = word-agrees new b map f.new-table (start-block old new carried arrivals f) w word start-there

  not-refused-then : lengthen_refusal old new carried arrivals ≡ 0
  not-refused-then = agreed-refusal old new carried arrivals f start-agrees

  -- every place that isn't lost then holds the word's packet
  pub word-then : (p : ℕ) → p < places new → is_lost (lengthen_outcome old new carried arrivals).map p ≡ false
      → part_at (size new) p (joined (lengthen_outcome old new carried arrivals).block) ≡ part_at (size new) p w
  word-then = word-values new b map f.new-table (start-block old new carried arrivals f) w word start-there

  -- ---- against a fresh repair of all packets received so far
  module _ (all : Held) (so_far : SoFar old new first arrivals all) where
    -- they are the word's
    all_right : Agree new all.block all.map w
    all_right = so-far-agrees old new first arrivals all w l.same_size so_far right arrive

    all_there : AgreeThere new all.block all.map w
    all_there = agree-there new all.block all.map so_far.fits w all_right

    all-agrees : agreeing new all.block all.map ≡ true
    all-agrees = word-agrees new all.block all.map f.new-table so_far.fits.block w word all_there

    -- what stays lost, either way, and what stayed lost under the old table
    left : Largest new map (is_lost (lengthen_outcome old new carried arrivals).map)
    left = stays-lost new b map (start-map old new carried arrivals f)

    abbrev K : ℕ → Bool
    K = is_lost (outcome new all.block all.map).map

    fresh : Largest new all.map K
    fresh = stays-lost new all.block all.map so_far.fits.map-length

    left-first : Largest old first.map (is_lost (outcome old first.block first.map).map)
    left-first = stays-lost old first.block first.map offered.map-length

    -- no place is both received and lost
    received-lost : (m : List ℕ) (p : ℕ) → get_or m p 0 ≡ 0 → is_lost m p ≡ true → ⊥
    received-lost m p z e = let o = eqb-true (get_or m p 0) 1 e in omega arith

    -- what is lost as entered isn't among them
    fewer : (p : ℕ) → is_lost map p ≡ true → is_lost all.map p ≡ true
    fewer p e = by_bool (is_lost all.map p) (λ z. z) (λ z. absurd (⊎_elim
        (λ r. received-lost first.map p r.1 (left-first.among.lost p (sym (was.lost p r.0) ∙ is_lost_lem carried.map p (sym (carried-old (places old) carried.map p r.0) ∙ lacks.was-lost))))
        (λ r. lacks.not-arrived r)
        (so_far.no_other p lacks.inside (lost-byte (bytes-all all.map so_far.fits.map-bytes) p z))))
      where
        lacks : Lacking (places old) (places new) carried arrivals p
        lacks = lost-lacks (size new) (places old) (places new) carried arrivals p e

    -- what a fresh repair leaves lost, at old places, is a stopping set of the old checks ..
    abbrev left_old : ℕ → Bool
    left_old p = K p && ltb p (places old)

    old-stopping : Stopping (checks old) left_old
    old-stopping = all_map (λ c r e. r.0 (ap length (filter_same K left_old (all_map (λ p h. drop-and (K p) (lt-ltb p (places old) h)) r.1)) ∙ e))
        (all-zip (old-checks old new l fresh.among.stopping) (accepted old f.old-table).low)

    -- .. within what was lost at first ..
    old-within : (p : ℕ) → left_old p ≡ true → is_lost first.map p ≡ true
    old-within p e = by_bool (is_lost first.map p) (λ z. z) (λ z. absurd (received-lost all.map p
        (so_far.from_first p (ltb-true p (places old) (and_r (K p) (ltb p (places old)) e)) (lost-byte (bytes-all first.map offered.map-bytes) p z)).0
        (fresh.among.lost p (and_l (K p) (ltb p (places old)) e))))

    -- .. so it was carried as lost ..
    carried-lost : (p : ℕ) → p < places old → K p ≡ true → is_lost carried.map p ≡ true
    carried-lost p h e = was.lost p h ∙ left-first.holds left_old (record { stopping = old-stopping; lost = old-within }) p (ap₂ ◌&&◌ e (lt-ltb p (places old) h))

    -- .. and is lost as entered
    still : (p : ℕ) → K p ≡ true → is_lost map p ≡ true
    still p e = lacks-lost (size new) (places old) (places new) carried arrivals p (record {
      inside = inside;
      was-lost = ⊎_elim
          (λ h. carried-old (places old) carried.map p h ∙ eqb-true _ 1 (carried-lost p h e))
          (λ h. carried-new (places old) carried.map p h)
          (side p (places old));
      not-arrived = λ z. received-lost all.map p (so_far.from-arrivals p inside z).0 (fresh.among.lost p e);
    })
      where
        inside : p < places new
        inside = subst (λ k. p < k) so_far.fits.map-length (lost-inside all.map p (fresh.among.lost p e))

    -- the same places stay lost
    same-lost : (p : ℕ) → is_lost (lengthen_outcome old new carried arrivals).map p ≡ K p
    same-lost p = both_ways _ _
        (largest-within new map all.map (is_lost (lengthen_outcome old new carried arrivals).map) K left fresh fewer p)
        (left.holds K (record { stopping = fresh.among.stopping; lost = still }) p)

    -- and the packets are the same: the word's, or zero
    by-start : RestoredBy new b map (joined (lengthen_outcome old new carried arrivals).block) (lengthen_outcome old new carried arrivals).map
    by-start = old-repair new b map f.new-table (start-block old new carried arrivals f) (start-map old new carried arrivals f) start-agrees

    by-fresh : RestoredBy new all.block all.map (joined (outcome new all.block all.map).block) (outcome new all.block all.map).map
    by-fresh = old-repair new all.block all.map f.new-table so_far.fits.block so_far.fits.map-length all-agrees

    whole_length : (x m : List ℕ) → length x ≡ places new * size new → length (joined (outcome new x m).block) ≡ places new * size new
    whole_length x m h = joined_length (size new) (outcome-sized new x m f.new-table h) ∙ ap (λ k. k * size new) (outcome-length new x m f.new-table h)

    same_block : joined (lengthen_outcome old new carried arrivals).block ≡ joined (outcome new all.block all.map).block
    same_block = same-packets (size new) (places new) _ _ (whole_length b map (start-block old new carried arrivals f)) (whole_length all.block all.map so_far.fits.block)
        (λ p h. by_bool (K p)
        (λ e. by-start.zeroed p h (same-lost p ∙ e) ∙ sym (by-fresh.zeroed p h e))
        (λ e. word-then p h (same-lost p ∙ e) ∙ sym (word-values new all.block all.map f.new-table so_far.fits.block w word all_there p h e)))

    pub as-if-fresh : AsIfFresh old new carried arrivals all
    as-if-fresh = record {
      not-refused = not-refused-then;
      fresh-agrees = all-agrees;
      block = ap (λ (x : Held). x.block) (after-accepted old new carried arrivals not-refused-then) ∙ same_block;
      lost = λ p. ap (λ (x : Held). is_lost x.map p) (after-accepted old new carried arrivals not-refused-then) ∙ same-lost p;
    }

    -- so what the call leaves can be carried on
    pub carried-again : Carried new (lengthen_after old new carried arrivals) all
    carried-again = record { lost = λ p h. as-if-fresh.lost p; packet = λ p h e. ap (part_at (size new) p) as-if-fresh.block }
