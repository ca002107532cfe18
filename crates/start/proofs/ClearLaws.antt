-- Clearing: runs of packets in a gap, the gaps between the information places, and the slots that are zero then.
use mathlib.Core.Path.{◌≡◌, refl, sym, ap, ◌∙◌}
use mathlib.Core.Bool.{true, false, true≢false}
use mathlib.Core.List.{List, []}
use mathlib.Core.Logic.{⊎_elim}
use Prim.Native.Nat.{ℕ, ◌+◌, ◌*◌, ◌-◌, ◌<◌, ◌≤◌}
use native.Mathlib.Nat.{mul-le-mul_right}
use native.Mathlib.Numerals.{add-one}
use native.Mathlib.Omega.{arith}
use lib.ListN.{length, get_or, replicate, length-replicate, get_or-append}
use lib.Seq.{ext_get_or, get_or-append-add}
use Rattle.lists.specs.Buffers.{part_length, get_d_part, written-bytes}
use Rattle.lists.specs.ListLaws.{get_d-has, get_d-zeros}
use Rattle.lists.specs.Lists.{has, written}
use Rattle.lists.specs.Tests.{by_bool, side}
use Rattle.table.specs.BufferLaws.{place-fits}
use Rattle.table.specs.PacketLaws.{packets-length, packet-at}
use Rattle.table.specs.Packets.{packets}
use Rattle.plan.specs.declared.Step.{Step}
use Rattle.plan.specs.Layout.{plan_places, plan_gap, info_count, info_in}
use Rattle.plan.specs.LayoutLaws.{Formed, info-length}
use Rattle.plan.specs.LookOver.{is_marked}
use Rattle.start.specs.Kept.{InformationKept}
use Rattle.start.specs.Start.{MarkedOnly, Alike, GapCleared, behind, GapsCleared, slots_in, ClearedFor}
use Rattle.start.proofs.GapLaws.{between, behind-le, behind-low}

-- ---- a gap
run_end : (i r s : ℕ) → i ≤ r → i * s + (r - i) * s ≡ r * s
run_end i r s h = let d = r - i in let e : (i + d) * s ≡ r * s = ap (λ (k : ℕ). k * s) (omega arith) in omega arith

-- nothing is cleared yet
pub gap-none : (marks : List ℕ) (s first low : ℕ) (b : List ℕ) → GapCleared marks s first low low b b
gap-none marks s first low b = record { below = λ x h. refl; above = λ x h. refl; zero = λ p i h g. absurd (omega arith) }

-- past packets that are marked a run is cleared
module _ (marks : List ℕ) (s first low i from to : ℕ) (b₀ b : List ℕ) (l : low ≤ i) (h : i ≤ from) (g : from ≤ to) (room : to * s ≤ length b)
    (skipped : (p : ℕ) → i ≤ p → p < from → is_marked marks (first + p) ≡ true) (done : GapCleared marks s first low i b₀ b) where
  abbrev zeros : List ℕ
  zeros = replicate ((to - from) * s) 0

  long : length zeros ≡ (to - from) * s
  long = length-replicate ((to - from) * s) 0

  pub gap_more : GapCleared marks s first low to b₀ (written b (from * s) zeros)
  gap_more =
      let e = run_end from to s g in
      let w = written-bytes b (from * s) zeros ((to - from) * s) long (omega arith) in
      let before : low * s ≤ i * s = mul-le-mul_right s l in
      let here : i * s ≤ from * s = mul-le-mul_right s h in
      let after : from * s ≤ to * s = mul-le-mul_right s g in
      record {
        below = λ x m. w.below x (omega arith) ∙ done.below x m;
        above = λ x m. w.above x (omega arith) ∙ done.above x (omega arith);
        zero = λ p j m k free f. ⊎_elim
            (λ c. let q = place-fits p i s c in w.below (p * s + j) (omega arith) ∙ done.zero p j m c free f)
            (λ c. ⊎_elim
            (λ d. absurd (true≢false (sym (skipped p c d) ∙ free)))
            (λ d. let q = place-fits p to s k in let r : from * s ≤ p * s = mul-le-mul_right s d in let v = p * s + j - from * s in
            ap (λ (x : ℕ). get_or (written b (from * s) zeros) x 0) {x = p * s + j} {y = from * s + v} (omega arith)
            ∙ w.inside v (omega arith) ∙ get_d-zeros ((to - from) * s) v)
            (side p from)) (side p i);
      }

-- it gets on
pub turn_on : {marks : List ℕ} {first i high from to : ℕ} → Alike marks true first i high from → Alike marks false first from high to → i < high → i < to
turn_on {marks} {first} {i} {high} {from} {to} u v more = ⊎_elim (λ h. h)
    (λ h. let e : from ≡ to = omega (arith, u.from, v.from) in
    absurd (true≢false (sym (v.stops (omega arith)) ∙ ap (λ (k : ℕ). is_marked marks (first + k)) (sym e) ∙ u.stops (omega (arith, u.from)))))
    (side i to)

-- ---- the gaps between the information places
module _ (w : List ℕ) (f : Formed w) (marks : List ℕ) (s : ℕ) (b₀ : List ℕ) where
  abbrev I : List ℕ
  I = info_in w

  I-long : length I ≡ info_count w
  I-long = info-length w f

  pub gaps-none : GapsCleared w marks s 0 0 b₀ b₀
  gaps-none = record { upto = refl; zero = λ p i h. absurd (omega arith); keeps = record { each = λ p i h l. refl }; rest = λ x h. refl }

  -- behind the last there is room
  pub gaps-low : (low : ℕ) (b : List ℕ) → GapsCleared w marks s (info_count w) low b₀ b → low ≤ plan_places w
  gaps-low low b done = omega (arith, done.upto, behind-low (plan_places w) I f.rises (info_count w) (omega (arith, I-long)))

  -- the gap behind the first k information places, up to high, holds no other
  module _ (k low high : ℕ) (b b' : List ℕ) (few : k ≤ info_count w) (done : GapsCleared w marks s k low b₀ b) (gap : GapCleared marks s 0 low high b b')
      (next : k < length I → high ≤ get_or I k 0) where
    none_in : (p : ℕ) → low ≤ p → p < high → has p I ≡ false
    none_in p h g = between (plan_places w) 0 I f.rises k (omega (arith, I-long)) p (omega (arith, done.upto)) (λ m. let n = next m in omega arith)

    outside : (p i : ℕ) → has p I ≡ true → i < s → get_or b' (p * s + i) 0 ≡ get_or b (p * s + i) 0
    outside p i h l = ⊎_elim
        (λ c. gap.below (p * s + i) (let q = place-fits p low s c in omega arith))
        (λ c. ⊎_elim
        (λ d. absurd (true≢false (sym h ∙ none_in p c d)))
        (λ d. gap.above (p * s + i) (let q : high * s ≤ p * s = mul-le-mul_right s d in omega arith))
        (side p high)) (side p low)

    kept_on : InformationKept w s b₀ b'
    kept_on = record { each = λ p i h l. outside p i h l ∙ done.keeps.each p i h l }

    zero-on : (p i : ℕ) → p < high → has p I ≡ false → is_marked marks p ≡ false → i < s → get_or b' (p * s + i) 0 ≡ 0
    zero-on p i m h free l = ⊎_elim
        (λ c. gap.below (p * s + i) (let q = place-fits p low s c in omega arith) ∙ done.zero p i c h free l)
        (λ c. gap.zero p i c m (ap (is_marked marks) {x = 0 + p} {y = p} (omega arith) ∙ free) l)
        (side p low)

  -- one turn: the gap before the k-th
  pub gaps-more : (k low : ℕ) (b b' : List ℕ) → k < info_count w → GapsCleared w marks s k low b₀ b → GapCleared marks s 0 low (get_or I k 0) b b'
      → GapsCleared w marks s (k + 1) (get_or I k 0 + 1) b₀ b'
  gaps-more k low b b' more done gap =
      let high = get_or I k 0 in
      let order : low ≤ high = omega (arith, done.upto, behind-le (plan_places w) I f.rises k (omega (arith, I-long))) in
      let wide : high ≤ high + 1 = omega arith in
      let up : high * s ≤ (high + 1) * s = mul-le-mul_right s wide in
      let on : low * s ≤ high * s = mul-le-mul_right s order in
      record {
        upto = add-one high ∙ sym (ap (behind I) (add-one k));
        zero = λ p i m h free l. ⊎_elim
            (λ c. zero-on k low high b b' (omega arith) done gap (λ z. omega arith) p i c h free l)
            (λ c. let e : p ≡ high = omega arith in absurd (true≢false (sym (get_d-has I k (omega (arith, I-long))) ∙ ap (λ (x : ℕ). has x I) (sym e) ∙ h)))
            (side p high);
        keeps = kept_on k low high b b' (omega arith) done gap (λ z. omega arith);
        rest = λ x m. gap.above x (omega arith) ∙ done.rest x (omega arith);
      }

-- ---- block and scratch
-- a packet whose bytes are zero
zero-packet : (s n : ℕ) (b : List ℕ) → length b ≡ n * s → (p : ℕ) → p < n → ((i : ℕ) → i < s → get_or b (p * s + i) 0 ≡ 0) → get_or (packets s n b) p [] ≡ replicate s 0
zero-packet s n b e p h z =
    let long = part_length b (p * s) s (let q = place-fits p n s h in omega arith) in
    packet-at s n b p h ∙ ext_get_or 0 _ _ (long ∙ sym (length-replicate s 0)) (λ i l. get_d_part b (p * s) s i (omega arith) ∙ z i (omega arith) ∙ sym (get_d-zeros s i))

-- the gap behind the last information place
module _ (w : List ℕ) (f : Formed w) (s : ℕ) (marks : List ℕ) (low : ℕ) (b₀ b b' : List ℕ)
    (gaps : GapsCleared w marks s (info_count w) low b₀ b) (last : GapCleared marks s 0 low (plan_places w) b b') where
  behind-all : info_count w < length (info_in w) → plan_places w ≤ get_or (info_in w) (info_count w) 0
  behind-all h = absurd (omega (arith, info-length w f))

  pub all-kept : InformationKept w s b₀ b'
  all-kept = kept_on w f marks s b₀ (info_count w) low (plan_places w) b b' (omega arith) gaps last behind-all

  all-zero : (p i : ℕ) → p < plan_places w → has p (info_in w) ≡ false → is_marked marks p ≡ false → i < s → get_or b' (p * s + i) 0 ≡ 0
  all-zero = zero-on w f marks s b₀ (info_count w) low (plan_places w) b b' (omega arith) gaps last behind-all

  -- and the scratch
  pub cleared-for : (c c' : List ℕ) → length b' ≡ plan_places w * s → length c' ≡ plan_gap w * s → (xs : List Step) → MarkedOnly xs marks
      → GapCleared marks s (plan_places w) 0 (plan_gap w) c c' → ClearedFor w s xs b' c'
  cleared-for c c' lb lc xs only back = record {
    zero = λ p h none other.
        let n = plan_places w in let front = packets s n b' in let rest = packets s (plan_gap w) c' in
        let long = packets-length s n b' in
        let free : is_marked marks p ≡ false = by_bool (is_marked marks p) (λ z. absurd (true≢false (sym (only.only p z) ∙ none))) (λ z. z) in
        ⊎_elim
        (λ m. get_or-append front rest [] p (omega arith) ∙ zero-packet s n b' lb p m (λ i l. all-zero p i m other free l))
        (λ m. let q = p - n in
        ap (λ (x : ℕ). get_or (slots_in w s b' c') x []) {x = p} {y = length front + q} (omega arith) ∙ get_or-append-add front rest q []
        ∙ zero-packet s (plan_gap w) c' lc q (omega arith) (λ i l. back.zero q i (omega arith) (omega arith) (ap (is_marked marks) {x = n + q} {y = p} (omega arith) ∙ free) l))
        (side p n);
  }
