-- The loop over the checks: `Takes` holds at each turn. The rows that are led, with their sums, have the same sums as the checks passed with theirs.
use mathlib.Core.Path.{◌≡◌, refl, sym, ap, ap₂, ◌∙◌, subst, fun_ext}
use mathlib.Core.Bool.{Bool, true, false, cond, true≢false}
use mathlib.Core.List.{List, [], ◌∷◌, map}
use mathlib.Core.Logic.{◌≢◌}
use Prim.Native.Nat.{ℕ, zero, suc, ◌+◌, ◌-◌, ◌*◌, ◌<◌, ◌≤◌}
use native.Mathlib.Omega.{arith}
use lib.Bits.{bit_xor, xor_zero_l}
use lib.Dec.{eqb}
use lib.ListN.{length, get_or, set, replicate, length-replicate}
use lib.Seq.{ext_get_or, get_or-set_same, get_or-set_other}
use borrow.Author.Tests.{eq-eqb}
use Rattle.lists.specs.ListLaws.{all_map, all_of, all-zip, all_get_d, get_d-zeros, has-par, has-filter, map-all}
use Rattle.lists.specs.Lists.{All, All.nil, All.cons}
use Rattle.lists.specs.Tests.{by_bool, eqb-true, eqb-false}
use Rattle.gf2.specs.EchelonLaws.{sum-bit, sums-complete}
use Rattle.gf2.specs.Gf2.{bit, Short, Bits, xor_group, add, sum_over, down, path, is_zero}
use Rattle.gf2.specs.Group.{sum_over-append}
use Rattle.gf2.specs.OneRowMore.{Stopped, short-zero}
use Rattle.gf2.specs.Places.{bit-row}
use Rattle.gf2.specs.PairElimination.{places-within, reduced_pair, reduced-in, vanished, rows', sums', turn-out, turn_in}
use Rattle.gf2.specs.Pairs.{pair_group, pairs_of}
use Rattle.gf2.specs.Span.{Span, span-zero, span_head, span_tail, span-within, Within, Within.none as wnil, Within.more, within-self}
use Rattle.table.specs.Checks.{offset}
use Rattle.table.specs.PacketLaws.{packets-length, packets-sized, view, sum_view}
use Rattle.table.specs.Packets.{packets, joined, packet_sum}
use Rattle.table.specs.Table.{checks}
use Rattle.packets.specs.SetLaws.{packets-set, bytes-set}
use Rattle.erasure.specs.Restoring.{is_lost, lost_places, zero_lost}
use Rattle.erasure.proofs.Values.{zero_lost-length, zero_lost-kept, zero_lost-zero}
use Rattle.bits.specs.Row.{row}
use Rattle.rows.specs.Leads.{leads, Owners, Lowered}
use Rattle.rows.specs.LeadsLaws.{leads-none, named, leads-kept, owners-kept, owners-below, own-here, own-other, own-most, lead-here, lead-other, lead_bits}
use Rattle.decided.specs.Decided.{lost_row, received_sum, clashes}
use Rattle.decided.specs.Pairing.{byte_group, pair_of}
use Rattle.decided.proofs.EliminatedPairs.{comb-row, found-clash}
use Rattle.erasure.proofs.OutcomeLaws.{zero_lost-sized}
use Rattle.decided.specs.Words.{Block}
use Rattle.eliminate.specs.Eliminating.{received_places, row_sum, sums_at, led_pairs, Eliminated}
use Rattle.eliminate.specs.EliminatingLaws.{none-sum, sums-led, path-sum}
use Rattle.eliminate.proofs.Taking.{row-view}

-- ---- sums of packets, byte by byte
-- a sum in which lost places give nothing is that over the received ones
received-sum : (lost : List ℕ) (g h : ℕ → ℕ) {c : List ℕ} → All (λ q. (is_lost lost q ≡ true → g q ≡ 0) × (is_lost lost q ≡ false → g q ≡ h q)) c
    → sum_over xor_group g c ≡ sum_over xor_group h (received_places lost c)
received-sum lost g h nil = refl
received-sum lost g h (cons {x = q} {l = c} e a) = by_bool (is_lost lost q)
    (λ l. rw l (ap₂ bit_xor (e.0 l) (received-sum lost g h a) ∙ xor_zero_l _))
    (λ l. rw l (ap₂ bit_xor (e.1 l) (received-sum lost g h a)))

-- ---- the state of the loop
pub record Takes (t : List ℕ) (m n s : ℕ) (b₀ lost w owner b : List ℕ) (k i at : ℕ) : Type 0 where
  pub few : k ≤ i
  pub here : at ≡ 5 + m + offset t i
  pub owned : (p : ℕ) → get_or owner p 0 ≤ k
  pub lead : (p : ℕ) → 0 < get_or owner p 0 → Bits (row w (get_or owner p 0 - 1)) (p + 1)
  pub lost-led : (p : ℕ) → 0 < get_or owner p 0 → is_lost lost p ≡ true
  pub bytes : length b ≡ n * s
  pub kept : (p : ℕ) → p < n → get_or owner p 0 ≡ 0 → get_or (packets s n b) p [] ≡ get_or (packets s n b₀) p []
  pub within : Within (pair_group xor_group byte_group) (map (pair_of s (packets s n b₀) lost) (checks t)) (led_pairs s n w owner b)
  pub passed : (j : ℕ) → j < i → Span (pair_group xor_group byte_group) (led_pairs s n w owner b) (pair_of s (packets s n b₀) lost (get_or (checks t) j []))

-- a place that no row leads has no sum
sums_none : (s n : ℕ) (owner b : List ℕ) (q j : ℕ) → get_or owner q 0 ≡ 0 → sums_at s n owner b q j ≡ 0
sums_none s n owner b q j h = rw (eq-eqb (get_or owner q 0) 0 h)

-- where all members' pairs are sums
within-list : {S : List (ℕ × (ℕ → ℕ))} (f : List ℕ → ℕ × (ℕ → ℕ)) (cs : List (List ℕ))
    → ((j : ℕ) → j < length cs → Span (pair_group xor_group byte_group) S (f (get_or cs j []))) → Within (pair_group xor_group byte_group) S (map f cs)
within-list f [] h = wnil
within-list f (c ∷ cs) h = more (h 0 (omega arith)) (within-list f cs (λ j l. h (suc j) (omega arith)))

in_list : (f : List ℕ → ℕ × (ℕ → ℕ)) (cs : List (List ℕ)) (j : ℕ) → j < length cs → Span (pair_group xor_group byte_group) (map f cs) (f (get_or cs j []))
in_list f [] j h = absurd (omega arith)
in_list f (c ∷ cs) zero h = span_head (pair_group xor_group byte_group)
in_list f (c ∷ cs) (suc j) h = span_tail (pair_group xor_group byte_group) (in_list f cs j (omega arith))

-- ---- rows without their sums
pub span-row : {X : Type 0} (r : X → ℕ) (g : X → ℕ → ℕ) (cs : List X) {y : ℕ} {a : ℕ → ℕ} → Span (pair_group xor_group byte_group) (map (λ c. (r c, g c)) cs) (y, a) → Span xor_group (map r cs) y
span-row r g cs q = record { mask = q.mask; sums = sym (comb-row (λ c. (r c, g c)) q.mask cs) ∙ ap (λ u. u.0) q.sums }

-- a place that isn't lost is in no sum of the checks' rows
sum-lost : (lost : List ℕ) (cs : List (List ℕ)) (y q : ℕ) → Span xor_group (map (lost_row lost) cs) y → bit q y ≡ true → is_lost lost q ≡ true
sum-lost lost cs y q sp on = by_bool (is_lost lost q) (λ l. l) (λ l. absurd (true≢false (sym on ∙ sum-bit q (map-all (lost_row lost) (all_of (λ c. bit-row q (lost_places lost c) ∙ has-par q (lost_places lost c) (has-filter (is_lost lost) q c l)) cs)) y
    (sums-complete (map (lost_row lost) cs) y sp))))

-- ---- the start
pub start : (t : List ℕ) (m n s : ℕ) (b lost w owner : List ℕ) → length b ≡ n * s → ((p : ℕ) → get_or owner p 0 ≡ 0) → Takes t m n s b lost w owner b 0 0 (5 + m)
unfolding offset
start t m n s b lost w owner bytes z = record {
  few = omega arith;
  here = omega arith;
  owned = λ p. let h = z p in omega arith;
  lead = λ p h. let q = z p in absurd (omega arith);
  lost-led = λ p h. let q = z p in absurd (omega arith);
  bytes = bytes;
  kept = λ p h e. refl;
  within = places-within (pair_group xor_group byte_group) _ (λ q. (leads w owner q, sums_at s n owner b q)) n (λ q h.
      subst (Span (pair_group xor_group byte_group) (map (pair_of s (packets s n b) lost) (checks t))) (ap₂ (λ (x : ℕ) (y : ℕ → ℕ). (x, y)) (sym (leads-none w owner q (z q))) (fun_ext (λ j. sym (sums_none s n owner b q j (z q)))))
      (span-zero (pair_group xor_group byte_group)));
  passed = λ j h. absurd (omega arith);
}

pub owners : {t : List ℕ} {m n s : ℕ} {b₀ lost w owner b : List ℕ} {k i at : ℕ} → Takes t m n s b₀ lost w owner b k i at → k * 16 ≤ length w → Owners w owner k
owners s room = owners-below s.owned s.lead room

-- the same block
pub same_block : {t : List ℕ} {m n s : ℕ} {b₀ lost w owner b b' : List ℕ} {k i at : ℕ} → b' ≡ b → Takes t m n s b₀ lost w owner b k i at → Takes t m n s b₀ lost w owner b' k i at
same_block {t} {m} {n} {s} {b₀} {lost} {w} {owner} {k = k} {i = i} {at = at} e z = subst (λ u. Takes t m n s b₀ lost w owner u k i at) (sym e) z

-- every place of a check without a lost one is known
all_known : (lost c : List ℕ) → lost_places lost c ≡ [] → All (λ p. is_lost lost p ≡ false) c
all_known lost [] h = nil
all_known lost (p ∷ c) h = by_bool (is_lost lost p)
    (λ e. let z : ◌≡◌ {A = ℕ} (suc (length (lost_places lost c))) 0 = ap length (rw e at h) in absurd (omega arith))
    (λ e. cons e (all_known lost c (rw e at h)))

-- ---- one check
module _ {t : List ℕ} {m n s : ℕ} {b₀ lost w owner b : List ℕ} {k i at : ℕ} (z : Takes t m n s b₀ lost w owner b k i at)
    (room : k * 16 ≤ length w) (b-long : length b₀ ≡ n * s) (low : All (λ c. All (λ p. p < n) c) (checks t)) (more-checks : i < length (checks t)) where
  -- the check, its row, its sum before it is reduced
  abbrev c : List ℕ
  c = get_or (checks t) i []

  abbrev f : ℕ → ℕ
  f = leads w owner

  abbrev x : ℕ
  x = lost_row lost c

  abbrev v : ℕ → ℕ → ℕ
  v = sums_at s n owner b

  abbrev acc : ℕ → ℕ
  acc j = get_or (received_sum s (packets s n b₀) lost c) j 0

  o : Owners w owner k
  o = owners z room

  c-low : All (λ p. p < n) c
  c-low = all_get_d low i more-checks

  -- the packets before the first check
  sized₀ : All (λ p. length p ≡ s) (packets s n b₀)
  sized₀ = packets-sized s n b₀ b-long

  ok : Block n s (checks t) (packets s n b₀)
  ok = record { low = low; long = packets-length s n b₀; sized = sized₀ }

  -- a place that isn't lost isn't led
  unled : (p : ℕ) → is_lost lost p ≡ false → get_or owner p 0 ≡ 0
  unled p l = named (get_or owner p 0) (λ e. e) (λ e. absurd (true≢false (sym (z.lost-led p e) ∙ l)))

  received-view : (j : ℕ) → acc j ≡ sum_over xor_group (view (packets s n b) j) (received_places lost c)
  received-view j =
      (sum_view s (zero_lost-sized s lost sized₀) {c = c} (all_map (λ p h. subst (λ u. p < u) (sym (zero_lost-length s lost (packets s n b₀) ∙ packets-length s n b₀)) h) c-low)).1 j
      ∙ received-sum lost (view (zero_lost s lost (packets s n b₀)) j) (view (packets s n b) j) (all_map (λ p h. (
        (λ l. ap (λ u. get_or u j 0) (zero_lost-zero s lost (packets s n b₀) p (subst (λ u. p < u) (sym (packets-length s n b₀)) h) l) ∙ get_d-zeros s j),
        (λ l. ap (λ u. get_or u j 0) (zero_lost-kept s lost (packets s n b₀) p l ∙ sym (z.kept p h (unled p l)))),
      )) c-low)

  -- a check without a lost place still sums to zero
  pub still-known : All (λ d. lost_places lost d ≡ [] → packet_sum s (packets s n b₀) d ≡ replicate s 0) (checks t) → lost_places lost c ≡ [] → packet_sum s (packets s n b) c ≡ replicate s 0
  still-known known none = same (all-zip c-low (all_known lost c none)) ∙ all_get_d known i more-checks none
    where
      same : {d : List ℕ} → All (λ p. (p < n) × (is_lost lost p ≡ false)) d → packet_sum s (packets s n b) d ≡ packet_sum s (packets s n b₀) d
      same nil = refl
      same (cons {x = p} h a) = ap₂ (add xor_group) (z.kept p h.0 (unled p h.1)) (same a)

  sum-long : length (row_sum s n lost c f b) ≡ s
  sum-long = (row-view n lost f c-low s b z.bytes).0

  -- the sum that goes with the reduced row
  sum_is : (j : ℕ) → get_or (row_sum s n lost c f b) j 0 ≡ (reduced_pair byte_group f v n x acc).1 j
  sum_is j = (row-view n lost f c-low s b z.bytes).1 j ∙ sum_over-append xor_group (view (packets s n b) j) (received_places lost c) (path f n x)
      ∙ ap₂ bit_xor (sym (received-view j)) (sym (path-sum s n w owner b n x j))

  checks-in : Span (pair_group xor_group byte_group) (map (pair_of s (packets s n b₀) lost) (checks t)) (x, acc)
  checks-in = in_list (pair_of s (packets s n b₀) lost) (checks t) i more-checks

  module _ {e : List ℕ} {l : ℕ} (d : Lowered w owner k n x e l) where
    y-zero : l ≡ 0 → down f n x ≡ 0
    y-zero h = short-zero (down f n x) (subst (λ u. Short u (down f n x)) h d.bits.most)

    same-leads : led_pairs s n e owner b ≡ led_pairs s n w owner b
    same-leads = ap (λ g. pairs_of byte_group g v n) (leads-kept o d.put)

    -- the row vanished and its sum did not
    pub turn-clash : l ≡ 0 → row_sum s n lost c f b ≢ replicate s 0 → clashes s (checks t) (packets s n b₀) lost ≡ true
    turn-clash h ne = found-clash n s (checks t) (packets s n b₀) ok lost (reduced_pair byte_group f v n x acc).1
        (subst (λ u. Span (pair_group xor_group byte_group) (map (pair_of s (packets s n b₀) lost) (checks t)) (u, (reduced_pair byte_group f v n x acc).1)) (y-zero h) (reduced-in byte_group f v n x acc z.within checks-in))
        (λ a. ne (ext_get_or 0 _ _ (sum-long ∙ sym (length-replicate s 0)) (λ j u. sum_is j ∙ a j ∙ sym (get_d-zeros s j))))

    -- the row is in the work buffer, and no place names it
    pub turn-same : Takes t m n s b₀ lost e owner b k i at
    turn-same = record {
      few = z.few;
      here = z.here;
      owned = z.owned;
      lead = (owners-kept o d.put).lead;
      lost-led = z.lost-led;
      bytes = z.bytes;
      kept = z.kept;
      within = subst (Within (pair_group xor_group byte_group) (map (pair_of s (packets s n b₀) lost) (checks t))) (sym same-leads) z.within;
      passed = λ j u. subst (λ S. Span (pair_group xor_group byte_group) S (pair_of s (packets s n b₀) lost (get_or (checks t) j []))) (sym same-leads) (z.passed j u);
    }

    -- both vanished
    pub turn-miss : l ≡ 0 → row_sum s n lost c f b ≡ replicate s 0 → (at' : ℕ) → at' ≡ 5 + m + offset t (i + 1) → Takes t m n s b₀ lost e owner b k (i + 1) at'
    turn-miss h zs at' next =
        let y = turn-same in
        let fw = z.few in
        record {
          few = omega arith;
          here = next;
          owned = y.owned;
          lead = y.lead;
          lost-led = y.lost-led;
          bytes = y.bytes;
          kept = y.kept;
          within = y.within;
          passed = λ j u. by_bool (eqb j i)
              (λ q. subst (λ S. Span (pair_group xor_group byte_group) S (pair_of s (packets s n b₀) lost (get_or (checks t) j []))) (sym same-leads)
              (subst (λ r. Span (pair_group xor_group byte_group) (led_pairs s n w owner b) (pair_of s (packets s n b₀) lost (get_or (checks t) r []))) (sym (eqb-true j i q))
              (vanished byte_group f v n x acc (ap is_zero (y-zero h)) (fun_ext (λ j. sym (sum_is j) ∙ ap (λ u. get_or u j 0) zs ∙ get_d-zeros s j)) (within-self (pair_group xor_group byte_group) (led_pairs s n w owner b)))))
              (λ q. let ne = eqb-false j i q in y.passed j (omega arith));
        }

    module _ (hit : 0 < l) (lo : l ≤ length owner) {b' : List ℕ} (put : b' ≡ joined (set (packets s n b) (l - 1) (row_sum s n lost c f b))) where
      abbrev own : List ℕ
      own = set owner (l - 1) (k + 1)

      inside : l - 1 < n
      inside = let h = d.most in omega arith

      abbrev stopped : Stopped f n (down f n x)
      stopped = record {
        top = l - 1;
        inside = inside;
        on = d.bits.last hit;
        last = let e : suc (l - 1) ≡ l = omega arith in rw e d.bits.most;
        free = ap is_zero (leads-none w owner (l - 1) (d.free hit));
      }

      none : (p : ℕ) → is_zero (f p) ≡ true → v p ≡ byte_group.o
      none p = none-sum w owner s n b z.lead p

      cut : packets s n b' ≡ set (packets s n b) (l - 1) (row_sum s n lost c f b)
      cut = ap (packets s n) put ∙ packets-set s n b z.bytes (l - 1) (row_sum s n lost c f b) inside sum-long

      at-lead : get_or (packets s n b') (l - 1) [] ≡ row_sum s n lost c f b
      at-lead = ap (λ u. get_or u (l - 1) []) cut ∙ get_or-set_same (packets s n b) (l - 1) (row_sum s n lost c f b) [] (subst (λ u. l - 1 < u) (sym (packets-length s n b)) inside)

      at_other : (p : ℕ) → (p ≡ l - 1 → ⊥) → get_or (packets s n b') p [] ≡ get_or (packets s n b) p []
      at_other p ne = ap (λ u. get_or u p []) cut ∙ get_or-set_other (packets s n b) (l - 1) p (row_sum s n lost c f b) [] ne

      -- the rows and the sums with the new ones
      leads-are : leads e own ≡ rows' byte_group f v n x acc none stopped
      leads-are = fun_ext (λ q. by_bool (eqb q (l - 1))
          (λ u. let i = eqb-true q (l - 1) u in rw u (ap (leads e own) i ∙ lead-here o d hit lo))
          (λ u. rw u (lead-other o d hit lo q (eqb-false q (l - 1) u))))

      sums-are : sums_at s n own b' ≡ sums' byte_group f v n x acc none stopped
      sums-are = fun_ext (λ q. by_bool (eqb q (l - 1))
          (λ u. rw u (fun_ext (λ j. let i = eqb-true q (l - 1) u in
          ap (λ p. sums_at s n own b' p j) i ∙ sums-led s n own b' (l - 1) j (omega (arith, own-here o d hit lo)) ∙ ap (λ r. get_or r j 0) at-lead ∙ sum_is j)))
          (λ u. rw u (fun_ext (λ j. let ne = eqb-false q (l - 1) u in
          ap₂ (λ r y. cond (eqb r 0) 0 (get_or y j 0)) (own-other o d hit lo q ne) (at_other q ne)))))

      pairs-are : led_pairs s n e own b' ≡ pairs_of byte_group (rows' byte_group f v n x acc none stopped) (sums' byte_group f v n x acc none stopped) n
      pairs-are = ap₂ (λ g h. pairs_of byte_group g h n) leads-are sums-are

      out : Within (pair_group xor_group byte_group) (led_pairs s n e own b') ((x, acc) ∷ led_pairs s n w owner b)
      out = subst (λ S. Within (pair_group xor_group byte_group) S ((x, acc) ∷ led_pairs s n w owner b)) (sym pairs-are) (turn-out byte_group f v n x acc none stopped)

      first : {S R : List (ℕ × (ℕ → ℕ))} {r : ℕ × (ℕ → ℕ)} → Within (pair_group xor_group byte_group) S (r ∷ R) → Span (pair_group xor_group byte_group) S r
      first (more p w) = p

      others : {S R : List (ℕ × (ℕ → ℕ))} {r : ℕ × (ℕ → ℕ)} → Within (pair_group xor_group byte_group) S (r ∷ R) → Within (pair_group xor_group byte_group) S R
      others (more p w) = w

      lead-lost : is_lost lost (l - 1) ≡ true
      lead-lost = sum-lost lost (checks t) (down f n x) (l - 1) (span-row (lost_row lost) (λ c j. get_or (received_sum s (packets s n b₀) lost c) j 0) (checks t) (reduced-in byte_group f v n x acc z.within checks-in)) (d.bits.last hit)

      -- a row more
      pub turn-hit : (at' : ℕ) → at' ≡ 5 + m + offset t (i + 1) → Takes t m n s b₀ lost e own b' (k + 1) (i + 1) at'
      turn-hit at' next =
          let fw = z.few in
          record {
            few = omega arith;
            here = next;
            owned = own-most o d hit lo (k + 1) (omega arith) (λ p. let h = z.owned p in omega arith);
            lead = lead_bits o d hit lo;
            lost-led = λ p h. by_bool (eqb p (l - 1))
                (λ u. ap (is_lost lost) (eqb-true p (l - 1) u) ∙ lead-lost)
                (λ u. z.lost-led p (subst (λ r. 0 < r) (own-other o d hit lo p (eqb-false p (l - 1) u)) h));
            bytes = ap length put ∙ bytes-set s n b z.bytes (l - 1) (row_sum s n lost c f b) inside sum-long;
            kept = λ p h u. by_bool (eqb p (l - 1))
                (λ r. let i = eqb-true p (l - 1) r in absurd (omega (arith, own-here o d hit lo, ap (λ j. get_or own j 0) i)))
                (λ r. let ne = eqb-false p (l - 1) r in at_other p ne ∙ z.kept p h (sym (own-other o d hit lo p ne) ∙ u));
            within = subst (Within (pair_group xor_group byte_group) (map (pair_of s (packets s n b₀) lost) (checks t))) (sym pairs-are) (turn_in byte_group f v n x acc none stopped z.within checks-in);
            passed = λ j u. by_bool (eqb j i)
                (λ q. subst (λ r. Span (pair_group xor_group byte_group) (led_pairs s n e own b') (pair_of s (packets s n b₀) lost (get_or (checks t) r []))) (sym (eqb-true j i q)) (first out))
                (λ q. let ne = eqb-false j i q in span-within (pair_group xor_group byte_group) (others out) (z.passed j (omega arith)));
          }

-- ---- the end
pub done : {t : List ℕ} {m n s : ℕ} {b₀ lost w owner b : List ℕ} {k i at : ℕ} → Takes t m n s b₀ lost w owner b k i at → k * 16 ≤ length w → n ≤ length owner → n ≤ 1024
    → (r : Bool) → (r ≡ true → i ≡ length (checks t)) → (r ≡ false → clashes s (checks t) (packets s n b₀) lost ≡ true) → Eliminated t n s b₀ lost r w owner b
done {t} {m} {n} {s} {b₀} {lost} {w} {owner} {b} {k} {i} z room places few r all clash = record {
  bytes = z.bytes;
  led = record { room = λ p. let h = z.owned p in omega arith; lead = z.lead; places = places; few = few };
  lost-led = z.lost-led;
  kept = z.kept;
  within = z.within;
  whole = λ h. within-list (pair_of s (packets s n b₀) lost) (checks t) (λ j u. z.passed j (subst (λ v. j < v) (sym (all h)) u));
  clash = clash;
}
