-- What the old repair promises, over the core: for every table that is accepted, every block of its length and every map of a byte a place,
-- whatever stands there for known places.
use Rattle.std.specs.Prelude.{◌≡◌, true, false, List, [], ◌⊎◌, ℕ, ◌+◌, ◌*◌, ◌<◌, length, get_or, replicate}
use Rattle.std.proofs.Common.{sym, ap, ◌∙◌, subst, inl, inr}
use Rattle.erasure.specs.ContradictionLaws.{Sums, sums-of}
use Rattle.erasure.proofs.Largest.{stays-lost}
use Rattle.erasure.specs.LostLaws.{none-lost}
use Rattle.erasure.proofs.OutcomeLaws.{tally-lost, tally-restored, start-length, start-sized, outcome-length, outcome-sized, part-joined}
use Rattle.erasure.specs.Restoring.{lost_places, zero_lost, tally, outcome, agreeing, block_if, is_lost, AgreeThere, Largest}
use Rattle.erasure.proofs.RestoringLaws.{restoring-same, restoring-mark}
use Rattle.erasure.proofs.Tally.{repaired-tally}
use Rattle.erasure.proofs.Values.{zero_lost-kept, zero_lost-zero, received-kept, left-zero, restored, no-contradiction}
use Rattle.lists.specs.ListLaws.{all_map}
use Rattle.lists.specs.Lists.{All}
use Rattle.lists.specs.Tests.{eqb-true, by_bool}
use Rattle.table.specs.Codewords.{IsCodeword}
use Rattle.table.specs.PacketCall.{part_at}
use Rattle.table.specs.PacketLaws.{packets-length, packets-sized, packets-of, joined_length, packet-at}
use Rattle.table.specs.Packets.{packets, joined, packet_sum}
use Rattle.table.specs.Table.{places, size, checks, refusal}
use Rattle.table.specs.TableLaws.{accepted}

-- block and map afterwards where it meets no contradiction, whatever was received
pub record RestoredBy (t b map b' map' : List ℕ) : Type 0 where
  -- "received packets are untouched", and so is their mark: those of every place that isn't lost
  pub known : (p : ℕ) → p < places t → is_lost map p ≡ false → (part_at (size t) p b' ≡ part_at (size t) p b) × (get_or map' p 0 ≡ get_or map p 0)
  -- a lost place stays lost or is marked as restored
  pub lost : (p : ℕ) → is_lost map p ≡ true → (get_or map' p 0 ≡ 1) ⊎ (get_or map' p 0 ≡ 2)
  -- "places still lost hold zero bytes"
  pub zeroed : (p : ℕ) → p < places t → is_lost map' p ≡ true → part_at (size t) p b' ≡ replicate (size t) 0
  -- what stays lost is the largest stopping set among the lost places
  pub stays : Largest t map (is_lost map')
  -- "every check without a lost place must sum to zero"
  pub sums : All (λ c. length (lost_places map' c) ≡ 0 → packet_sum (size t) (packets (size t) (places t) b') c ≡ replicate (size t) 0) (checks t)
  -- restored and still lost are the places that were so
  pub counts : tally 2 map' + tally 1 map' ≡ tally 2 map + tally 1 map
  -- where nothing stays lost, the block is a codeword
  pub whole : tally 1 map' ≡ 0 → IsCodeword t b'

module _ (t b map : List ℕ) (ok : refusal t ≡ 0) (fits : length b ≡ places t * size t) where
  -- the packets afterwards
  pub part-is : (p : ℕ) → p < places t → part_at (size t) p (joined (outcome t b map).block) ≡ get_or (outcome t b map).block p []
  part-is p h = part-joined (size t) (places t) (outcome t b map).block (outcome-length t b map ok fits) (outcome-sized t b map ok fits) p h

  packets-are : packets (size t) (places t) (joined (outcome t b map).block) ≡ (outcome t b map).block
  packets-are = packets-of (size t) (places t) (outcome-length t b map ok fits) (outcome-sized t b map ok fits)

  pub old-repair : length map ≡ places t → agreeing t b map ≡ true → RestoredBy t b map (joined (outcome t b map).block) (outcome t b map).map
  old-repair long agrees = record {
    known = λ p h e. (
      part-is p h ∙ received-kept (places t) (size t) (checks t) _ map p e ∙ packet-at (size t) (places t) b p h,
      restoring-same (places t) (size t) (checks t) _ p e,
    );
    lost = λ p e. by_bool (is_lost (outcome t b map).map p)
        (λ z. inl (eqb-true _ 1 z))
        (λ z. inr (restoring-mark (places t) (size t) (checks t) _ p e z));
    zeroed = λ p h e. part-is p h ∙ left-zero (places t) (size t) (checks t) _ map p (subst (λ k. p < k) (sym (packets-length (size t) (places t) b)) h) e;
    stays = stays-lost t b map long;
    sums = rw packets-are zeros;
    counts = rw (tally-restored (outcome t b map).map, tally-lost (outcome t b map).map, tally-restored map, tally-lost map)
        (repaired-tally (places t) (size t) (checks t) (packets (size t) (places t) b) map);
    whole = λ h. let z = sym (tally-lost (outcome t b map).map) ∙ h in record {
      size_fits = joined_length (size t) (outcome-sized t b map ok fits) ∙ ap (λ k. k * size t) (outcome-length t b map ok fits);
      sums = rw packets-are (all_map (λ c k. k (none-lost (outcome t b map).map c z)) zeros);
    };
  }
    where
      zeros : Sums (size t) (checks t) (outcome t b map)
      zeros = sums-of (size t) (outcome t b map) (checks t) agrees

  -- ---- where it meets a contradiction: known packets are kept, lost places are zero
  cleared-part : (p : ℕ) → p < places t → part_at (size t) p (block_if false t b map) ≡ get_or (zero_lost (size t) map (packets (size t) (places t) b)) p []
  cleared-part p h = part-joined (size t) (places t) _ (start-length t b map ok fits) (start-sized t b map ok fits) p h

  pub cleared-kept : (p : ℕ) → p < places t → is_lost map p ≡ false → part_at (size t) p (block_if false t b map) ≡ part_at (size t) p b
  cleared-kept p h e = cleared-part p h ∙ zero_lost-kept (size t) map (packets (size t) (places t) b) p e ∙ packet-at (size t) (places t) b p h

  pub cleared-zero : (p : ℕ) → p < places t → is_lost map p ≡ true → part_at (size t) p (block_if false t b map) ≡ replicate (size t) 0
  cleared-zero p h e = cleared-part p h ∙ zero_lost-zero (size t) map (packets (size t) (places t) b) p (subst (λ k. p < k) (sym (packets-length (size t) (places t) b)) h) e

  -- ---- with a codeword w behind it
  module _ (w : List ℕ) (word : IsCodeword t w) (same : AgreeThere t b map w) where
    packets-agree : (p : ℕ) → p < places t → is_lost map p ≡ false → get_or (packets (size t) (places t) b) p [] ≡ get_or (packets (size t) (places t) w) p []
    packets-agree p h e = packet-at (size t) (places t) b p h ∙ same p h e ∙ sym (packet-at (size t) (places t) w p h)

    -- it meets no contradiction
    pub word-agrees : agreeing t b map ≡ true
    word-agrees = no-contradiction (places t) (size t) (checks t) (accepted t ok).low (packets (size t) (places t) w)
        (packets-length (size t) (places t) w) (packets-sized (size t) (places t) w word.size_fits)
        (packets (size t) (places t) b) map (packets-length (size t) (places t) b) packets-agree word.sums

    -- every restored packet is the codeword's, and every other that isn't lost afterwards
    pub word-values : (p : ℕ) → p < places t → is_lost (outcome t b map).map p ≡ false → part_at (size t) p (joined (outcome t b map).block) ≡ part_at (size t) p w
    word-values p h e = part-is p h ∙ restored (places t) (size t) (checks t) (accepted t ok).low (packets (size t) (places t) w)
        (packets-length (size t) (places t) w) (packets-sized (size t) (places t) w word.size_fits)
        (packets (size t) (places t) b) map (packets-length (size t) (places t) b) packets-agree word.sums p h e ∙ packet-at (size t) (places t) w p h
