-- One place more of a check: its bytes lie within the block, and are added to what the places before it give.
use Rattle.std.specs.Prelude.{◌≡◌, List, [], ◌∷◌, ◌++◌, ℕ, ◌+◌, ◌*◌, ◌<◌, ◌≤◌, length, get_or, take, drop}
use Rattle.std.proofs.Common.{sym, ap, ◌∙◌, add-one, arith, length-drop, take-suc, drop-drop, get_or-drop}
use Rattle.lists.specs.Buffers.{part_length}
use Rattle.table.specs.BufferLaws.{place-fits}
use Rattle.table.specs.Checks.{CheckIn}
use Rattle.table.specs.GatherLaws.{Gathered, gathered-more}
use Rattle.table.specs.PacketLaws.{packet-at}
use Rattle.table.specs.Packets.{packets, mixed}
use Rattle.table.specs.SumLaws.{part-of-part}

module _ (t : List ℕ) (at weight : ℕ) (b : List ℕ) (n s off : ℕ) (ok : CheckIn t at weight b n s) where
  -- one place more
  pub one_more : (m : ℕ) → m < weight → take (m + 1) (drop at t) ≡ take m (drop at t) ++ (get_or t (at + m) 0 ∷ [])
  one_more m h =
      let long : m < length (drop at t) = omega (arith, length-drop at t, ok.room) in
      rw add-one (take-suc (drop at t) m 0 long ∙ ap (λ v. take m (drop at t) ++ (v ∷ [])) (get_or-drop at t m 0))

  -- a place's bytes lie within the block
  pub place-room : (k m q : ℕ) → off + k ≤ s → m < weight → q ≡ get_or t (at + m) 0 → q * s + off + k ≤ length b
  place-room k m q fits h e = let l : q < n = rw e (ok.below m h) in omega (arith, place-fits q n s l, ok.bytes)

  -- they are a part of its packet
  bytes_of : (k q : ℕ) → off + k ≤ s → q < n → take k (drop (q * s + off) b) ≡ take k (drop off (get_or (packets s n b) q []))
  bytes_of k q fits l =
      ap (take k) (sym (drop-drop off (q * s) b)) ∙ sym (part-of-part off k s (drop (q * s) b) fits)
      ∙ ap (λ p. take k (drop off p)) (sym (packet-at s n b q l))

  pub place-more : (fs a₀ a r : List ℕ) (m q : ℕ) → off + length a₀ ≤ s → m < weight → q ≡ get_or t (at + m) 0 → Gathered s (packets s n b) off fs a₀ a
      → r ≡ mixed a 0 (take (length a₀) (drop (q * s + off) b)) → Gathered s (packets s n b) off (fs ++ (q ∷ [])) a₀ r
  place-more fs a₀ a r m q fits h e g f =
      let k = length a₀ in
      let in-n : q < n = rw e (ok.below m h) in
      let long : length (take k (drop (q * s + off) b)) ≡ length a = part_length b (q * s + off) k (place-room k m q fits h e) ∙ sym g.len in
      gathered-more s (packets s n b) off q (take k (drop (q * s + off) b)) g long (bytes_of k q fits in-n) f
