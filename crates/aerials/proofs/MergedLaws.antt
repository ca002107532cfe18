-- The merged block and map: their lengths, place by place, and the four counts.
use Rattle.std.specs.Prelude.{◌≡◌, false, cond, List, [], ◌∷◌, map as each, ◌≢◌, ℕ, ◌+◌, ◌*◌, ◌<◌, ◌≤◌, eqb, ltb, length, get_or}
use Rattle.std.proofs.Common.{sym, ap, ap₂, ◌∙◌, subst, arith, le-ltb}
use Rattle.std.proofs.lemmas.Simd.{map-map}
use Rattle.std.proofs.Math.ListN.{get_or-eq_default}
use Rattle.erasure.specs.Offered.{Held, byte_over}
use Rattle.erasure.proofs.PlaceByPlace.{part-sized, block-length, block-part}
use Rattle.erasure.specs.Restoring.{tally}
use Rattle.lists.specs.ListLaws.{all_map, map-all, any_none, filter_none}
use Rattle.lists.specs.Lists.{from}
use Rattle.lists.specs.Numbers.{from_all, from-length, map-from-at, each-length, each_same}
use Rattle.lists.specs.Tests.{eqb-true, by_bool}
use Rattle.table.specs.PacketCall.{part_at}
use Rattle.table.specs.Packets.{joined}
use Rattle.aerials.specs.Aerials.{Heard, agreed, single, silent, clash, packet_of, mark_of, kind_of, heard_at, kinds, merged}
use Rattle.aerials.specs.HeardLaws.{mark-most, mark-kind, packet-sized, exchanged, heard-alike}

-- each place is of one kind
kinds-add : (f : ℕ → Heard) (l : List ℕ)
    → tally 0 (each (λ p. kind_of (f p)) l) + tally 1 (each (λ p. kind_of (f p)) l) + tally 2 (each (λ p. kind_of (f p)) l) + tally 3 (each (λ p. kind_of (f p)) l) ≡ length l
kinds-add f [] = omega arith
kinds-add f (x ∷ l) = go (f x) (kinds-add f l)
  where
    go : (h : Heard)
        → tally 0 (each (λ p. kind_of (f p)) l) + tally 1 (each (λ p. kind_of (f p)) l) + tally 2 (each (λ p. kind_of (f p)) l) + tally 3 (each (λ p. kind_of (f p)) l) ≡ length l
        → tally 0 (kind_of h ∷ each (λ p. kind_of (f p)) l) + tally 1 (kind_of h ∷ each (λ p. kind_of (f p)) l) + tally 2 (kind_of h ∷ each (λ p. kind_of (f p)) l) + tally 3 (kind_of h ∷ each (λ p. kind_of (f p)) l)
        ≡ length (x ∷ l)
    go (agreed y) e = omega arith
    go (single y) e = omega arith
    go silent e = omega arith
    go clash e = omega arith

-- those that are lost are silent or in clash
lost-add : (f : ℕ → Heard) (l : List ℕ) → tally 1 (each (λ p. mark_of (f p)) l) ≡ tally 2 (each (λ p. kind_of (f p)) l) + tally 3 (each (λ p. kind_of (f p)) l)
lost-add f [] = omega arith
lost-add f (x ∷ l) = go (f x) (lost-add f l)
  where
    go : (h : Heard) → tally 1 (each (λ p. mark_of (f p)) l) ≡ tally 2 (each (λ p. kind_of (f p)) l) + tally 3 (each (λ p. kind_of (f p)) l)
        → tally 1 (mark_of h ∷ each (λ p. mark_of (f p)) l) ≡ tally 2 (kind_of h ∷ each (λ p. kind_of (f p)) l) + tally 3 (kind_of h ∷ each (λ p. kind_of (f p)) l)
    go (agreed y) e = omega arith
    go (single y) e = omega arith
    go silent e = omega arith
    go clash e = omega arith

module _ (n s : ℕ) (one two : Held) where
  -- ---- counts
  -- "the four counts, which add up to n"
  pub four-counts : tally 0 (kinds s one two n) + tally 1 (kinds s one two n) + tally 2 (kinds s one two n) + tally 3 (kinds s one two n) ≡ n
  four-counts = kinds-add (heard_at s one two) (from 0 n) ∙ from-length 0 n

  pub lost-counts : tally 1 (merged s one two n).map ≡ tally 2 (kinds s one two n) + tally 3 (kinds s one two n)
  lost-counts = lost-add (heard_at s one two) (from 0 n)

  -- where no place is in clash, none is counted
  pub no-clashes : ((p : ℕ) → p < n → kind_of (heard_at s one two p) ≢ 3) → tally 3 (kinds s one two n) ≡ 0
  no-clashes none = ap length (filter_none (eqb 3) (map-all (λ p. kind_of (heard_at s one two p)) (all_map (λ p h. let u = h.1 in other p (none p (omega arith))) (from_all 0 n))))
    where
      other : (p : ℕ) → kind_of (heard_at s one two p) ≢ 3 → eqb 3 (kind_of (heard_at s one two p)) ≡ false
      other p ne = by_bool (eqb 3 (kind_of (heard_at s one two p))) (λ z. absurd (ne (sym (eqb-true 3 _ z)))) (λ z. z)

  -- ---- the map
  -- by the kinds
  pub marks-of-kinds : each (λ k. cond (ltb 1 k) 1 0) (kinds s one two n) ≡ (merged s one two n).map
  marks-of-kinds = map-map (λ k. cond (ltb 1 k) 1 0) (λ p. kind_of (heard_at s one two p)) (from 0 n) ∙ each_same _ _ n (λ p h. sym (mark-kind (heard_at s one two p)))

  pub marks-length : length (merged s one two n).map ≡ n
  marks-length = each-length (λ p. mark_of (heard_at s one two p)) n

  pub mark-at : (p : ℕ) → p < n → get_or (merged s one two n).map p 0 ≡ mark_of (heard_at s one two p)
  mark-at p h = map-from-at (λ q. mark_of (heard_at s one two q)) 0 n p h

  pub mark-beyond : (p : ℕ) → n ≤ p → get_or (merged s one two n).map p 0 ≡ 0
  mark-beyond p h = get_or-eq_default (merged s one two n).map 0 (subst (λ k. k ≤ p) (sym marks-length) h)

  pub marks-low : byte_over (merged s one two n).map ≡ false
  marks-low = any_none (ltb 1) (map-all (λ p. mark_of (heard_at s one two p)) (all_map (λ p h. le-ltb 1 _ (mark-most (heard_at s one two p))) (from_all 0 n)))

  -- ---- the block
  module _ (long1 : length one.block ≡ n * s) (long2 : length two.block ≡ n * s) where
    sized : (p : ℕ) → p < n → length (packet_of s (heard_at s one two p)) ≡ s
    sized p h = packet-sized (get_or one.map p 0) (get_or two.map p 0) (part_at s p one.block) (part_at s p two.block) s (part-sized n s one.block long1 p h) (part-sized n s two.block long2 p h)

    pub merged-length : length (merged s one two n).block ≡ n * s
    merged-length = block-length n s (λ p. packet_of s (heard_at s one two p)) sized

    -- the packet at a place
    pub merged-part : (p : ℕ) → p < n → part_at s p (merged s one two n).block ≡ packet_of s (heard_at s one two p)
    merged-part = block-part n s (λ p. packet_of s (heard_at s one two p)) sized

-- ---- what doesn't count
-- which of the listeners is the first
pub merged-exchanged : (n s : ℕ) (one two : Held) → (kinds s one two n ≡ kinds s two one n) × (merged s one two n ≡ merged s two one n)
merged-exchanged n s one two = (
  each_same _ _ n (λ p h. ap kind_of (other p)),
  ap₂ (λ b m. record { block = joined b; map = m }) (each_same _ _ n (λ p h. ap (packet_of s) (other p))) (each_same _ _ n (λ p h. ap mark_of (other p))),
)
  where
    other : (p : ℕ) → heard_at s one two p ≡ heard_at s two one p
    other p = exchanged (get_or one.map p 0) (get_or two.map p 0) (part_at s p one.block) (part_at s p two.block)

-- what a listener's block has where its map says lost
pub record SameHeard (n s : ℕ) (one two : Held) : Type 0 where
  pub marks : one.map ≡ two.map
  pub packets : (p : ℕ) → p < n → get_or one.map p 0 ≡ 0 → part_at s p one.block ≡ part_at s p two.block

pub merged-alike : (n s : ℕ) (one two three four : Held) → SameHeard n s one three → SameHeard n s two four
    → (kinds s one two n ≡ kinds s three four n) × (merged s one two n ≡ merged s three four n)
merged-alike n s one two three four first second = (
  each_same _ _ n (λ p h. ap kind_of (other p h)),
  ap₂ (λ b m. record { block = joined b; map = m }) (each_same _ _ n (λ p h. ap (packet_of s) (other p h))) (each_same _ _ n (λ p h. ap mark_of (other p h))),
)
  where
    other : (p : ℕ) → p < n → heard_at s one two p ≡ heard_at s three four p
    other p h = heard-alike (get_or one.map p 0) (get_or two.map p 0) (part_at s p one.block) (part_at s p two.block) (part_at s p three.block) (part_at s p four.block) (first.packets p h) (second.packets p h)
        ∙ ap₂ (λ a b. heard_at s (record { block = three.block; map = a }) (record { block = four.block; map = b }) p) first.marks second.marks
