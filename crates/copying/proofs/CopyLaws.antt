-- Copying: packets put at places, and the slots that stand before the first step then.
use mathlib.Core.Path.{◌≡◌, refl, sym, ap, ap₂, ◌∙◌}
use mathlib.Core.Bool.{false, ◌||◌}
use mathlib.Core.List.{List, [], ◌∷◌, ◌++◌}
use mathlib.Core.Logic.{⊎_elim}
use Prim.Native.Nat.{ℕ, zero, suc, ◌+◌, ◌-◌, ◌*◌, ◌<◌, ◌≤◌}
use native.Mathlib.Nat.{mul-le-mul_right}
use native.Mathlib.Numerals.{add-one}
use native.Mathlib.Omega.{arith}
use borrow.Author.Tests.{ne_eqb}
use lib.ListN.{length, get_or, set, take, drop, replicate, length-set, length-replicate, get_or-replicate, get_or-eq_default}
use lib.Seq.{drop-cons, drop-drop, take-add, set-append_left}
use Rattle.lists.specs.Buffers.{part_length, get_d_part, written-length}
use Rattle.lists.specs.ListLaws.{all_get_d, all_set}
use Rattle.lists.specs.Lists.{has, written}
use Rattle.lists.specs.Tests.{side}
use Rattle.lists.specs.WroteLaws.{wrote_none, wrote-append}
use Rattle.table.specs.BufferLaws.{place-fits, packet-part, set-copied}
use Rattle.table.specs.PacketLaws.{packets-length, packets-sized, packets-joined, joined_length, packets-of}
use Rattle.table.specs.Packets.{Packets, packets, joined}
use Rattle.plan.specs.declared.Step.{Step}
use Rattle.plan.specs.AtStart.{put_other, put-length, put-packets}
use Rattle.plan.specs.Layout.{plan_places, plan_gap, info_count, info_in, slots}
use Rattle.plan.specs.LayoutLaws.{Formed, info-length, info-below}
use Rattle.plan.specs.Steps.{with_packets}
use Rattle.start.specs.Kept.{OthersKept}
use Rattle.start.specs.Start.{Together, with_information, clears_first, slots_in, ClearedFor, PreparedFor}
use Rattle.start.specs.StartLaws.{set-alike, lengths-alike, slots_length}

-- ---- packets at places
-- into slots that agree at the other places
packets-alike : (I : List ℕ) (ps st st' : List (List ℕ)) (p : ℕ) → length ps ≡ length I → length st ≡ length st'
    → (has p I ≡ false → get_or st p [] ≡ get_or st' p []) → get_or (with_packets st I ps) p [] ≡ get_or (with_packets st' I ps) p []
packets-alike [] ps st st' p m l e = e refl
packets-alike (i ∷ I) [] st st' p m l e = absurd (omega arith)
packets-alike (i ∷ I) (q ∷ ps) st st' p m l e = packets-alike I ps (set st i q) (set st' i q) p (omega arith) (lengths-alike st st' i q l)
    (λ h. set-alike st st' i q p l (λ n. e (ap₂ ◌||◌ (ne_eqb p i n) h)))

-- slots behind the places stay
with_append : (st tail : List (List ℕ)) (I : List ℕ) (ps : List (List ℕ)) → ((k : ℕ) → k < length I → get_or I k 0 < length st)
    → with_packets (st ++ tail) I ps ≡ with_packets st I ps ++ tail
with_append st tail [] ps h = refl
with_append st tail (i ∷ I) [] h = refl
with_append st tail (i ∷ I) (p ∷ ps) h =
    ap (λ (z : List (List ℕ)). with_packets z I ps) (set-append_left st tail i p (h 0 (omega arith)))
    ∙ with_append (set st i p) tail I ps (λ k l. let e = length-set st i p in let m = h (suc k) (omega arith) in omega arith)

-- one more packet
with-more : (st : List (List ℕ)) (I : List ℕ) (ps : List (List ℕ)) (k : ℕ) → k < length I → k < length ps
    → with_packets st (drop k I) (drop k ps) ≡ with_packets (set st (get_or I k 0) (get_or ps k [])) (drop (k + 1) I) (drop (k + 1) ps)
with-more st I ps k h l =
    ap₂ (λ (x : List ℕ) (y : List (List ℕ)). with_packets st x y) (drop-cons I k 0 h) (drop-cons ps k [] l)
    ∙ ap (λ (j : ℕ). with_packets (set st (get_or I k 0) (get_or ps k [])) (drop j I) (drop j ps)) (sym (add-one k))

-- a packet copied, in bytes and in packets
copied : (s n m : ℕ) (b information : List ℕ) → length b ≡ n * s → length information ≡ m * s → (p k : ℕ) → p < n → k < m
    → packets s n (written b (p * s) (take s (drop (k * s) information))) ≡ set (packets s n b) p (get_or (packets s m information) k [])
copied s n m b information e f p k h l =
    let ps = packets s n b in let qs = packets s m information in
    let a = packets-sized s n b e in let d = packets-sized s m information f in
    let x = set ps p (get_or qs k []) in
    let long : length x ≡ n = length-set ps p (get_or qs k []) ∙ packets-length s n b in
    let inside : p < length ps = (let z = packets-length s n b in omega arith) in
    let there : k < length qs = (let z = packets-length s m information in omega arith) in
    ap (packets s n) (ap₂ (λ (y z : List ℕ). written y (p * s) (take s (drop (k * s) z))) (sym (packets-joined s n b e)) (sym (packets-joined s m information f))
    ∙ sym (set-copied s a d p k inside there))
    ∙ packets-of s n long (all_set a p (get_or qs k []) (all_get_d d k there))

-- a run of packets, to places that follow each other
module _ (s n m : ℕ) (b information : List ℕ) (lb : length b ≡ n * s) (li : length information ≡ m * s)
    (I : List ℕ) (all : length I ≡ m) (low : (j : ℕ) → j < m → get_or I j 0 < n) (k r : ℕ) (run : Together I k m r) where
  abbrev qs : List (List ℕ)
  qs = packets s m information

  abbrev rest : List ℕ
  rest = drop (k * s) information

  abbrev to : ℕ
  to = get_or I k 0

  -- the first j of them copied
  abbrev partly : ℕ → List ℕ
  partly j = written b (to * s) (take (j * s) rest)

  -- they are there, and have room
  part-long : (j : ℕ) → k + j ≤ r → length (take (j * s) rest) ≡ j * s
  part-long j h = part_length information (k * s) (j * s) (let g : (k + j) * s ≤ m * s = mul-le-mul_right s (omega (arith, run.upto)) in omega arith)

  part_room : (j : ℕ) → k + j ≤ r → to * s + j * s ≤ n * s
  part_room zero h = let g = place-fits to n s (low k (omega (arith, run.some, run.upto))) in omega arith
  part_room (suc j) h =
      let l : to + j < n = omega (arith, run.follow j (omega arith), low (k + j) (omega (arith, run.upto))) in
      let g = place-fits (to + j) n s l in omega arith

  partly-long : (j : ℕ) → k + j ≤ r → length (partly j) ≡ n * s
  partly-long j h = written-length b (to * s) (take (j * s) rest) (omega (arith, part-long j h, part_room j h, lb)) ∙ lb

  -- one more
  partly_more : (j : ℕ) → k + j < r → written (partly j) ((to + j) * s) (take s (drop ((k + j) * s) information)) ≡ partly (suc j)
  partly_more j h =
      let x = take (j * s) rest in let y = take s (drop (j * s) rest) in let at = to * s in
      let long = part-long j (omega arith) in
      let next : at + length x ≡ (to + j) * s = omega arith in
      let from : drop ((k + j) * s) information ≡ drop (j * s) rest = ap (λ (i : ℕ). drop i information) {x = (k + j) * s} {y = k * s + j * s} (omega arith) ∙ sym (drop-drop (j * s) (k * s) information) in
      let both : x ++ y ≡ take (suc j * s) rest = sym (take-add (j * s) s rest) ∙ ap (λ (i : ℕ). take i rest) {x = j * s + s} {y = suc j * s} (omega arith) in
      ap₂ (λ (i : ℕ) (v : List ℕ). written (partly j) i (take s v)) (sym next) from
      ∙ (wrote-append {l = b} {ws = x} {vs = y} (omega (arith, part_room j (omega arith), lb)) (record { list = refl; next = refl }) (record { list = refl; next = refl })).list
      ∙ ap (written b at) both

  with-run : (j : ℕ) → k + j ≤ r → with_packets (packets s n b) (drop k I) (drop k qs) ≡ with_packets (packets s n (partly j)) (drop (k + j) I) (drop (k + j) qs)
  with-run zero h =
      ap (λ (v : List ℕ). with_packets (packets s n v) (drop k I) (drop k qs)) ((wrote_none b (to * s)).list ∙ ap (λ (i : ℕ). written b (to * s) (take i rest)) {x = 0} {y = zero * s} (omega arith))
      ∙ ap (λ (i : ℕ). with_packets (packets s n (partly zero)) (drop i I) (drop i qs)) {x = k} {y = k + zero} (omega arith)
  with-run (suc j) h =
      let st = packets s n (partly j) in let v = get_or qs (k + j) [] in
      let f = run.follow j (omega arith) in
      let here : k + j < m = omega (arith, run.upto) in
      let next : k + j + 1 ≡ k + suc j = omega arith in
      with-run j (omega arith) ∙ with-more st I qs (k + j) (omega arith) (omega (arith, packets-length s m information))
      ∙ ap₂ (λ (x : List (List ℕ)) (i : ℕ). with_packets x (drop i I) (drop i qs))
      (ap (λ (i : ℕ). set st i v) f ∙ sym (ap (packets s n) (sym (partly_more j (omega arith)))
      ∙ copied s n m (partly j) information (partly-long j (omega arith)) li (to + j) (k + j) (omega (arith, low (k + j) here)) here)) next

  -- all of them
  whole : k + (r - k) ≡ r
  whole = omega (arith, run.some)

  pub run_room : to * s + (r - k) * s ≤ n * s
  run_room = part_room (r - k) (omega (arith, whole))

  pub run-copied : with_packets (packets s n b) (drop k I) (drop k qs) ≡ with_packets (packets s n (partly (r - k))) (drop r I) (drop r qs)
  run-copied = with-run (r - k) (omega (arith, whole)) ∙ ap (λ (i : ℕ). with_packets (packets s n (partly (r - k))) (drop i I) (drop i qs)) whole

-- ---- bytes of packets
-- byte i of packet p
byte_at : (s : ℕ) {ps : List (List ℕ)} → Packets s ps → (p i : ℕ) → p < length ps → i < s → get_or (joined ps) (p * s + i) 0 ≡ get_or (get_or ps p []) i 0
byte_at s {ps} a p i h l = sym (ap (λ (x : List ℕ). get_or x i 0) (packet-part s a p h) ∙ get_d_part (joined ps) (p * s) s i l)

-- of a packet that is the same in two rows of as many
same_byte : (s : ℕ) {ps qs : List (List ℕ)} → Packets s ps → Packets s qs → length ps ≡ length qs → (p i : ℕ) → i < s
    → (p < length qs → get_or ps p [] ≡ get_or qs p []) → get_or (joined ps) (p * s + i) 0 ≡ get_or (joined qs) (p * s + i) 0
same_byte s {ps} {qs} a b e p i l same = ⊎_elim
    (λ h. byte_at s a p i (omega arith) l ∙ ap (λ (x : List ℕ). get_or x i 0) (same h) ∙ sym (byte_at s b p i h l))
    (λ h. let m = mul-le-mul_right s h in let n : length ps * s ≡ length qs * s = ap (λ (k : ℕ). k * s) e in
    get_or-eq_default (joined ps) 0 (omega (arith, joined_length s a)) ∙ sym (get_or-eq_default (joined qs) 0 (omega (arith, joined_length s b))))
    (side p (length qs))

-- ---- the information copied
-- no other byte is changed
pub others-kept : (w : List ℕ) (s : ℕ) (b : List ℕ) → length b ≡ plan_places w * s → (information : List ℕ) → length information ≡ info_count w * s
    → OthersKept w s b (with_information w s information b)
others-kept w s b lb information li = record {
  each = λ p i h l.
      let I = info_in w in let ps = packets s (info_count w) information in let front = packets s (plan_places w) b in let sized = packets-sized s (plan_places w) b lb in
      same_byte s (put-packets s I sized (packets-sized s (info_count w) information li)) sized (put-length front I ps) p i l (λ k. put_other front I ps p h)
      ∙ ap (λ (x : List ℕ). get_or x (p * s + i) 0) (packets-joined s (plan_places w) b lb);
}

module _ (w : List ℕ) (s : ℕ) (b c : List ℕ) (lb : length b ≡ plan_places w * s) (lc : length c ≡ plan_gap w * s) where
  abbrev front : List (List ℕ)
  front = packets s (plan_places w) b

  abbrev back : List (List ℕ)
  back = packets s (plan_gap w) c

  front_long : length front ≡ plan_places w
  front_long = packets-length s (plan_places w) b

  -- from slots that are zero but for the information places and those that the steps clear first
  pub prepared-for : Formed w → (xs : List Step) (information : List ℕ) → length information ≡ info_count w * s → ClearedFor w s xs b c
      → PreparedFor w s xs information (with_information w s information b) c
  prepared-for f xs information li k = record {
    agrees = λ p h. ap (λ st. get_or st p []) same
        ∙ packets-alike I ps (slots_in w s b c) (replicate (slots w) z) p (packets-length s (info_count w) information ∙ sym (info-length w f)) (slots_length w s b c lb lc ∙ sym zeros) (start p h);
  }
    where
      z : List ℕ
      z = replicate s 0

      I : List ℕ
      I = info_in w

      ps : List (List ℕ)
      ps = packets s (info_count w) information

      zeros : length (replicate (slots w) z) ≡ slots w
      zeros = length-replicate (slots w) z

      same : slots_in w s (with_information w s information b) c ≡ with_packets (slots_in w s b c) I ps
      same =
          ap (λ v. v ++ back)
          (packets-of s (plan_places w) (put-length front I ps ∙ front_long) (put-packets s I (packets-sized s (plan_places w) b lb) (packets-sized s (info_count w) information li)))
          ∙ sym (with_append front back I ps (λ i l. let o = info-length w f in let m = info-below w f i (omega arith) in omega (arith, front_long)))

      start : (p : ℕ) → clears_first xs p ≡ false → has p I ≡ false → get_or (slots_in w s b c) p [] ≡ get_or (replicate (slots w) z) p []
      start p h other = ⊎_elim
          (λ l. k.zero p l h other ∙ sym (get_or-replicate (slots w) p z [] l))
          (λ l. get_or-eq_default (slots_in w s b c) [] (omega (arith, slots_length w s b c lb lc)) ∙ sym (get_or-eq_default (replicate (slots w) z) [] (omega (arith, zeros))))
          (side p (slots w))
