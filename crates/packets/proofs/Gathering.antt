-- Turns of gathering the other packets of a check, and of writing their sum piece by piece.
use mathlib.Core.Path.{◌≡◌, refl, sym, ap, ◌∙◌}
use mathlib.Core.Bool.{not}
use mathlib.Core.Logic.{⊎_elim}
use mathlib.Core.List.{List, [], ◌∷◌, ◌++◌}
use Prim.Native.Nat.{ℕ, ◌+◌, ◌*◌, ◌-◌, ◌<◌, ◌≤◌}
use native.Mathlib.Omega.{arith}
use lib.ListN.{length, get_or, set, take, drop, replicate, length-drop}
use lib.Seq.{take_all, take-suc, get_or-drop, ext_get_or}
use native.Mathlib.Numerals.{add-one}
use Rattle.lists.specs.Tests.{side}
use Rattle.gf2.specs.Gf2.{xor_group, add, sum_over}
use Rattle.gf2.specs.RowValue.{sum-ext-in}
use Rattle.lists.specs.ListLaws.{all_filter, all_map}
use Rattle.lists.specs.Lists.{has, minus, written, All}
use Rattle.lists.specs.Buffers.{Patched, patched_same, written-bytes, part_length, get_d_part}
use Rattle.table.specs.BufferLaws.{place-fits, set-written}
use Rattle.table.specs.PacketLaws.{packets-length, packets-sized, packets-joined, packet-at, view, sum_view}
use Rattle.table.specs.Packets.{packets, joined, packet_sum, mixed}
use Rattle.table.specs.GatherLaws.{Gathered, gathered-as, from-zeros, last-part}
use Rattle.packets.proofs.Buffers.{more}
use Rattle.packets.proofs.Others.{minus-same, minus-other, others-length}
use Rattle.packets.specs.Given.{Given, sum_without}
use Rattle.packets.specs.GivenLaws.{as-check, here}
use Rattle.packets.specs.PlaceLaws.{place-more}

module _ (places b : List ℕ) (n s skip : ℕ) (ok : Given places b n s) where
  abbrev pub others : List ℕ
  others = sum_without places b n s skip

  sum-long : length others ≡ s
  sum-long = others-length places b n s skip ok

  -- one place more
  one_more : (m : ℕ) → m < length places → take (m + 1) places ≡ take m places ++ (get_or places m 0 ∷ [])
  one_more m h = rw add-one (take-suc places m 0 h)

  -- skip itself
  pub place_same : (off : ℕ) (a₀ a a' : List ℕ) (m q : ℕ) → m < length places → q ≡ get_or places m 0 → q ≡ skip → Gathered s (packets s n b) off (minus (take m places) (skip ∷ [])) a₀ a
      → a' ≡ a → Gathered s (packets s n b) off (minus (take (m + 1) places) (skip ∷ [])) a₀ a'
  place_same off a₀ a a' m q h i same g e = gathered-as s (packets s n b) off (sym
      (ap (λ c. minus c (skip ∷ [])) (one_more m h ∙ ap (λ v. take m places ++ (v ∷ [])) (sym i ∙ same)) ∙ minus-same (take m places) skip)) e g

  -- another place
  pub place_other : (off : ℕ) (a₀ a r r' : List ℕ) (m q : ℕ) → off + length a₀ ≤ s → m < length places → q ≡ get_or places m 0 → (q ≡ skip → ⊥)
      → Gathered s (packets s n b) off (minus (take m places) (skip ∷ [])) a₀ a → r ≡ mixed a 0 (take (length a₀) (drop (q * s + off) b)) → r' ≡ r
      → Gathered s (packets s n b) off (minus (take (m + 1) places) (skip ∷ [])) a₀ r'
  place_other off a₀ a r r' m q fits h e other g f same = gathered-as s (packets s n b) off (sym
      (ap (λ c. minus c (skip ∷ [])) (one_more m h ∙ ap (λ v. take m places ++ (v ∷ [])) (sym e)) ∙ minus-other (take m places) skip q other))
      same (place-more places 0 (length places) b n s off (as-check places b n s ok) (minus (take m places) (skip ∷ [])) a₀ a r m q fits h (here places m q e) g f)

  -- 64 bytes of the sum, and the last ones
  pub others-chunk : (off : ℕ) (a : List ℕ) → off + 64 ≤ s → a ≡ add xor_group (replicate 64 0) (take 64 (drop off others)) → a ≡ take 64 (drop off others)
  others-chunk off a fits g = from-zeros s (packets s n b) off (minus (places) (skip ∷ [])) sum-long 64 _ a refl fits g

  pub others-rest : (off : ℕ) → off ≤ s → (m : ℕ) (a : List ℕ) → s - off ≤ m → length a ≡ length (take (s - off) (replicate {A = ℕ} m 0))
      → a ≡ add xor_group (take (s - off) (replicate m 0)) (take (length (take (s - off) (replicate {A = ℕ} m 0))) (drop off others))
      → take (s - off) (a ++ drop (s - off) (replicate m 0)) ≡ drop off others
  others-rest off le m a fits kept g = last-part s (packets s n b) off (minus (places) (skip ∷ [])) sum-long le m a fits kept g

  -- ---- writing
  module _ (p : ℕ) (in-n : p < n) where
    fits-p : p * s + s ≤ length b
    fits-p = omega (arith, place-fits p n s in-n, ok.bytes)

    pub bytes_of : ℕ → ℕ
    bytes_of k = get_or others k 0

    -- a block in which only the first i bytes of the packet at p differ
    module _ (i : ℕ) (f : ℕ → ℕ) (e : List ℕ) (le : i ≤ s) (h : Patched b (p * s) i f e) where
      -- the other bytes are the same
      byte-same : (j q : ℕ) → i ≤ j → j < s → get_or e (q * s + j) 0 ≡ get_or b (q * s + j) 0
      byte-same j q lo hi =
          ⊎_elim (λ l. h.below (q * s + j) (omega (arith, place-fits q p s l)))
          (λ l. ⊎_elim (λ k. h.above (q * s + j) (omega (arith, place-fits p q s k)))
          (λ k. let same : q ≡ p = omega arith in rw same (h.above (p * s + j) (omega arith)))
          (side p q))
          (side q p)

      view-at : (x : List ℕ) (j q : ℕ) → q < n → j < s → view (packets s n x) j q ≡ get_or x (q * s + j) 0
      view-at x j q l hi = ap (λ v. get_or v j 0) (packet-at s n x q l) ∙ get_d_part x (q * s) s j hi

      summed : List ℕ
      summed = minus (places) (skip ∷ [])

      low : All (λ q. q < n) summed
      unfolding summed
      low = all_filter (λ q. not (has q (skip ∷ []))) ok.below

      view_of : (x : List ℕ) → length x ≡ n * s
          → (length (packet_sum s (packets s n x) summed) ≡ s) × ((j : ℕ) → get_or (packet_sum s (packets s n x) summed) j 0 ≡ sum_over xor_group (view (packets s n x) j) summed)
      view_of x l = sum_view s (packets-sized s n x l) {c = summed} (rw (packets-length s n x) low)

      -- so is the sum from byte i on
      pub same_sum : drop i (packet_sum s (packets s n e) (minus (places) (skip ∷ []))) ≡ drop i others
      unfolding summed
      same_sum =
          let x = view_of e (h.len ∙ ok.bytes) in
          let y = view_of b ok.bytes in
          ext_get_or 0 _ _ (simp length-drop (omega (arith, x.0, y.0))) (λ k l.
          let hi : i + k < s = omega (arith, x.0, simp length-drop at l) in
          get_or-drop i (packet_sum s (packets s n e) summed) k 0 ∙ x.1 (i + k)
          ∙ sum-ext-in xor_group (all_map (λ q u. view-at e (i + k) q u hi ∙ byte-same (i + k) q (omega arith) hi ∙ sym (view-at b (i + k) q u hi)) low)
          ∙ sym (y.1 (i + k)) ∙ sym (get_or-drop i others k 0))

    -- k bytes more
    pub piece-more : (i k : ℕ) (e r : List ℕ) → i + k ≤ s → Patched b (p * s) i bytes_of e
        → r ≡ written e (p * s + i) (take k (drop i (packet_sum s (packets s n e) (minus (places) (skip ∷ [])))))
        → Patched b (p * s) (i + k) bytes_of r
    unfolding bytes_of
    piece-more i k e r fits h f =
        let y = take k (drop i others) in
        let long : length y ≡ k = part_length others i k (omega (arith, sum-long)) in
        let g : r ≡ written e (p * s + i) y = f ∙ ap (λ x. written e (p * s + i) (take k x)) (same_sum i bytes_of e (omega arith) h) in
        rw g (more h (written-bytes e (p * s + i) y k long (omega (arith, h.len, fits-p))) (λ j l. get_d_part others i k j l))

    -- all of them
    pub all-written : (i : ℕ) (e r : List ℕ) → i ≤ s → Patched b (p * s) i bytes_of e
        → r ≡ written e (p * s + i) (drop i (packet_sum s (packets s n e) (minus (places) (skip ∷ []))))
        → r ≡ joined (set (packets s n b) p others)
    unfolding bytes_of
    all-written i e r le h f =
        let x = packet_sum s (packets s n e) (minus (places) (skip ∷ [])) in
        let same : drop i x ≡ drop i others = same_sum i bytes_of e le h in
        let whole : take (s - i) (drop i x) ≡ drop i x = take_all (s - i) (drop i x) (omega (arith, length-drop i others, ap length same, sum-long)) in
        let m = piece-more i (s - i) e r (omega arith) h (f ∙ ap (written e (p * s + i)) (sym whole)) in
        let q : i + (s - i) ≡ s = omega arith in
        patched_same (λ k l. refl) (rw q at m) (written-bytes b (p * s) others s sum-long fits-p)
        ∙ ap (λ y. written y (p * s) others) (sym (packets-joined s n b ok.bytes))
        ∙ sym (set-written s (packets-sized s n b ok.bytes) p others (rw (packets-length s n b) in-n) sum-long)
