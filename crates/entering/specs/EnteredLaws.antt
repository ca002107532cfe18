-- Block and map as entered: their lengths, and place by place.
use Rattle.std.specs.Prelude.{◌≡◌, true, ◌≢◌, ℕ, ◌*◌, ◌<◌, length, get_or, replicate}
use Rattle.std.proofs.Common.{sym, ap, ◌∙◌, subst}
use Rattle.entering.specs.Entering.{mark_of, packet_of, carried_mark, entry_at, entered}
use Rattle.entering.specs.EntryLaws.{entry-missing, packet-sized, lost-zero, lost-is}
use Rattle.erasure.specs.LostLaws.{is_lost_lem, lost-inside}
use Rattle.erasure.specs.Offered.{Held}
use Rattle.erasure.proofs.PlaceByPlace.{part-sized, block-length, block-part}
use Rattle.erasure.specs.Restoring.{is_lost}
use Rattle.lists.specs.Numbers.{map-from-at, each-length}
use Rattle.lists.specs.Tests.{eqb-true}
use Rattle.table.specs.PacketCall.{part_at}

-- the packets of a block of k places that is carried
pub parts-long : (s n k : ℕ) (carried : Held) → length carried.block ≡ k * s → (p : ℕ) → p < k → carried_mark n carried.map p ≢ 1 → length (part_at s p carried.block) ≡ s
parts-long s n k carried l p h e = part-sized k s carried.block l p h

-- a place that is lost as entered: carried as lost, or new, and not arrived
pub record Lacking (n k : ℕ) (carried arrivals : Held) (p : ℕ) : Type 0 where
  pub inside : p < k
  pub was-lost : carried_mark n carried.map p ≡ 1
  pub not-arrived : get_or arrivals.map p 0 ≢ 0

module _ (s n k : ℕ) (carried arrivals : Held) where
  -- ---- the map
  pub marks-length : length (entered s n carried arrivals k).map ≡ k
  marks-length = each-length (λ p. mark_of (entry_at s n carried arrivals p)) k

  pub mark-at : (p : ℕ) → p < k → get_or (entered s n carried arrivals k).map p 0 ≡ mark_of (entry_at s n carried arrivals p)
  mark-at p h = map-from-at (λ q. mark_of (entry_at s n carried arrivals q)) 0 k p h

  lost-inside-of : (p : ℕ) → is_lost (entered s n carried arrivals k).map p ≡ true → p < k
  lost-inside-of p e = subst (λ j. p < j) marks-length (lost-inside (entered s n carried arrivals k).map p e)

  pub lost-lacks : (p : ℕ) → is_lost (entered s n carried arrivals k).map p ≡ true → Lacking n k carried arrivals p
  lost-lacks p e =
      let h = lost-inside-of p e in
      let r = lost-is (carried_mark n carried.map p) (get_or arrivals.map p 0) (part_at s p carried.block) (part_at s p arrivals.block) (sym (mark-at p h) ∙ eqb-true _ 1 e) in
      record { inside = h; was-lost = r.0; not-arrived = r.1 }

  pub lacks-lost : (p : ℕ) → Lacking n k carried arrivals p → is_lost (entered s n carried arrivals k).map p ≡ true
  lacks-lost p l = is_lost_lem (entered s n carried arrivals k).map p (mark-at p l.inside
      ∙ ap mark_of (entry-missing (carried_mark n carried.map p) (get_or arrivals.map p 0) (part_at s p carried.block) (part_at s p arrivals.block) l.was-lost l.not-arrived))

  -- ---- the block
  module _ (long : (p : ℕ) → p < k → carried_mark n carried.map p ≢ 1 → length (part_at s p carried.block) ≡ s) (wide : length arrivals.block ≡ k * s) where
    pub sized : (p : ℕ) → p < k → length (packet_of s (entry_at s n carried arrivals p)) ≡ s
    sized p h = packet-sized (carried_mark n carried.map p) (get_or arrivals.map p 0) (part_at s p carried.block) (part_at s p arrivals.block) s (long p h) (part-sized k s arrivals.block wide p h)

    pub entered-length : length (entered s n carried arrivals k).block ≡ k * s
    entered-length = block-length k s (λ p. packet_of s (entry_at s n carried arrivals p)) sized

    -- the packet at a place
    pub entered-part : (p : ℕ) → p < k → part_at s p (entered s n carried arrivals k).block ≡ packet_of s (entry_at s n carried arrivals p)
    entered-part = block-part k s (λ p. packet_of s (entry_at s n carried arrivals p)) sized

    -- lost places are zero
    pub entered-zero : (p : ℕ) → p < k → is_lost (entered s n carried arrivals k).map p ≡ true → part_at s p (entered s n carried arrivals k).block ≡ replicate s 0
    entered-zero p h e = entered-part p h
        ∙ lost-zero (carried_mark n carried.map p) (get_or arrivals.map p 0) (part_at s p carried.block) (part_at s p arrivals.block) s (sym (mark-at p h) ∙ eqb-true _ 1 e)
