-- What is decided is exact: something clashes just if no codeword agrees, and a place is decided just if all that agree have one packet there.
use Rattle.std.specs.Prelude.{◌≡◌, Bool, true, false, cond, List, [], map, ◌⊎◌, ℕ, ◌^◌, ◌<◌, ◌≤◌, length, get_or, replicate}
use Rattle.std.proofs.Common.{sym, ap, ap₂, ◌∙◌, subst, inl, inr, arith, ext_get_or}
use Rattle.std.proofs.lemmas.Bool.{false≢true}
use Rattle.std.specs.Int.Bits.{bit_xor}
use Rattle.std.proofs.lemmas.List.{length-replicate}
use Rattle.std.proofs.Math.Pow.{pow-lt}
use Rattle.decided.specs.Decided.{lost_row, received_sum, decided, value, clashes}
use Rattle.decided.specs.Packed.{list_of, list_of-length, list_of-all, some-view, clash-none, clash-some, split-sum}
use Rattle.decided.specs.Words.{Word, Block}
use Rattle.erasure.proofs.OutcomeLaws.{zero_lost-sized}
use Rattle.erasure.specs.Restoring.{is_lost, zero_lost}
use Rattle.erasure.proofs.Values.{zero_lost-kept, zero_lost-zero, zero_lost-length}
use Rattle.gf2.specs.EchelonLaws.{sums-complete}
use Rattle.gf2.specs.Gf2.{bool_group, xor_group, sum_over, mask_for}
use Rattle.gf2.specs.Group.{eq-zero, cancel}
use Rattle.gf2.specs.MaskLaws.{mask-sums}
use Rattle.gf2.specs.RowValue.{row_lt, val, val-pow, val-row, sum-ext-in}
use Rattle.gf2.specs.Separate.{Apart, separate}
use Rattle.gf2.specs.Span.{Span}
use Rattle.gf2.specs.Systems.{Meets, meets-comb, meets-calm, shifted, shifted_even, shifted-within, Solution, solution}
use Rattle.lists.specs.ListLaws.{all_map, all_filter, all-zip, all-every, all_get_d, filter-in, map-all, get_d-zeros}
use Rattle.lists.specs.Lists.{All, All.nil, All.cons}
use Rattle.lists.specs.Numbers.{map-from-at}
use Rattle.lists.specs.Tests.{by_bool}
use Rattle.table.specs.PacketLaws.{view, sum_view}
use Rattle.table.specs.Packets.{Packets, packet_sum}

module _ (n s : ℕ) (cs b : List (List ℕ)) (ok : Block n s cs b) (lost : List ℕ) where
  -- byte j of a check's received sum
  abbrev pub byte_of : ℕ → List ℕ → ℕ
  byte_of j c = get_or (received_sum s b lost c) j 0

  below_length : (w : List (List ℕ)) → length w ≡ n → {c : List ℕ} → All (λ p. p < n) c → All (λ p. p < length w) c
  below_length w l a = all_map (λ p h. subst (λ k. p < k) (sym l) h) a

  start-sized : Packets s (zero_lost s lost b)
  start-sized = zero_lost-sized s lost ok.sized

  start-low : {c : List ℕ} → All (λ p. p < n) c → All (λ p. p < length (zero_lost s lost b)) c
  start-low a = below_length (zero_lost s lost b) (zero_lost-length s lost b ∙ ok.long) a

  -- every received sum has s bytes
  pub sums-sized : All (λ c. length (received_sum s b lost c) ≡ s) cs
  sums-sized = all_map (λ c a. (sum_view s start-sized (start-low a)).0) ok.low

  -- every row lies below 2 ^ n
  pub rows-low : All (λ c. lost_row lost c < 2 ^ n) cs
  rows-low = all_map (λ c a. row_lt n (all_filter (is_lost lost) a)) ok.low

  -- a check's sum is its lost places' and its received sum
  check-split : (w : List (List ℕ)) → length w ≡ n → Packets s w → ((p : ℕ) → p < n → is_lost lost p ≡ false → get_or w p [] ≡ get_or b p [])
      → (j : ℕ) {c : List ℕ} → All (λ p. p < n) c → get_or (packet_sum s w c) j 0 ≡ bit_xor (val xor_group (view w j) n (lost_row lost c)) (byte_of j c)
  check-split w l z agree j {c} a = (sum_view s z (below_length w l a)).1 j
      ∙ split-sum (is_lost lost) (view w j) (view (zero_lost s lost b) j) (all_map (λ p h. (
        (λ t. ap (λ v. get_or v j 0) (zero_lost-zero s lost b p (subst (λ k. p < k) (sym ok.long) h) t) ∙ get_d-zeros s j),
        (λ t. ap (λ v. get_or v j 0) (zero_lost-kept s lost b p t ∙ sym (agree p h t))),
      )) a)
      ∙ ap₂ bit_xor (sym (val-row xor_group (view w j) n (all_filter (is_lost lost) a))) (sym ((sum_view s start-sized (start-low a)).1 j))

  -- byte j of a codeword that agrees has every check's received sum
  pub word-meets : (w : List (List ℕ)) → Word n s cs b lost w → (j : ℕ) → Meets xor_group (lost_row lost) (byte_of j) (view w j) n cs
  word-meets w d j = all_map (λ c h. eq-zero xor_group _ _ (sym (check-split w d.long d.sized d.agree j h.0) ∙ ap (λ v. get_or v j 0) h.1 ∙ get_d-zeros s j)) (all-zip ok.low d.zeros)

  -- after a clash no codeword agrees
  pub clash-no-word : clashes s cs b lost ≡ true → (w : List (List ℕ)) → Word n s cs b lost w → ⊥
  clash-no-word h w d = let q = clash-some s (lost_row lost) (received_sum s b lost) sums-sized 0 (replicate s 0) (length-replicate s 0) h in
      q.differs (λ j. meets-calm xor_group (lost_row lost) (byte_of j) (view w j) n (word-meets w d j) q.mask q.sums ∙ sym (get_d-zeros s j))

  -- so where one does, nothing clashes
  pub word-no-clash : (w : List (List ℕ)) → Word n s cs b lost w → clashes s cs b lost ≡ false
  word-no-clash w d = by_bool (clashes s cs b lost) (λ h. absurd (clash-no-word h w d)) (λ h. h)

  -- a decided place has the packet of every codeword that agrees
  pub decided-value : (p : ℕ) → p < n → decided lost cs p ≡ true → (w : List (List ℕ)) → Word n s cs b lost w → get_or w p [] ≡ value s cs b lost p
  decided-value p h t w d =
      let m = mask_for (map (lost_row lost) cs) (2 ^ p) in
      let r = some-view s (received_sum s b lost) sums-sized m in
      ext_get_or 0 (get_or w p []) (value s cs b lost p) (all_get_d d.sized p (subst (λ k. p < k) (sym d.long) h) ∙ sym r.0) (λ j i.
      sym (val-pow xor_group (view w j) n p h) ∙ ap (val xor_group (view w j) n) (sym (mask-sums (map (lost_row lost) cs) (2 ^ p) t))
      ∙ meets-comb xor_group (lost_row lost) (byte_of j) (view w j) n (word-meets w d j) m ∙ sym (r.1 j))

  -- ---- a codeword from a state for each byte: its values at the lost places, what was received at the others
  abbrev pub word_of : (ℕ → ℕ → ℕ) → List (List ℕ)
  word_of st = list_of n (λ p. list_of s (λ j. cond (is_lost lost p) (st j p) (view b j p)))

  -- at a lost place
  pub word_of-lost : (st : ℕ → ℕ → ℕ) (p j : ℕ) → p < n → j < s → is_lost lost p ≡ true → view (word_of st) j p ≡ st j p
  word_of-lost st p j h i t = ap (λ v. get_or v j 0) (map-from-at (λ p. list_of s (λ j. cond (is_lost lost p) (st j p) (view b j p))) [] n p h)
      ∙ map-from-at (λ j. cond (is_lost lost p) (st j p) (view b j p)) 0 s j i ∙ ap (λ v. cond v (st j p) (view b j p)) t

  -- at a received one
  word_of-kept : (st : ℕ → ℕ → ℕ) (p : ℕ) → p < n → is_lost lost p ≡ false → get_or (word_of st) p [] ≡ get_or b p []
  word_of-kept st p h t = map-from-at (λ p. list_of s (λ j. cond (is_lost lost p) (st j p) (view b j p))) [] n p h
      ∙ ext_get_or 0 _ _ (list_of-length s _ ∙ sym (all_get_d ok.sized p (subst (λ k. p < k) (sym ok.long) h)))
      (λ j i. map-from-at (λ j. cond (is_lost lost p) (st j p) (view b j p)) 0 s j (subst (λ k. j < k) (list_of-length s _) i) ∙ ap (λ v. cond v (st j p) (view b j p)) t)

  word_of-long : (st : ℕ → ℕ → ℕ) → length (word_of st) ≡ n
  word_of-long st = list_of-length n _

  word_of-sized : (st : ℕ → ℕ → ℕ) → Packets s (word_of st)
  word_of-sized st = list_of-all n _ (λ p. list_of-length s _)

  -- a codeword, where each state has every check's received sum
  pub word_of-word : (st : ℕ → ℕ → ℕ) → ((j : ℕ) → Meets xor_group (lost_row lost) (byte_of j) (st j) n cs) → Word n s cs b lost (word_of st)
  word_of-word st h = record {
    long = word_of-long st;
    sized = word_of-sized st;
    zeros = all_map (λ c k. one c k.0 k.1) (all-zip ok.low (all-every cs h));
    agree = word_of-kept st;
  }
    where
      same : (j : ℕ) → j < s → (c : List ℕ) → All (λ p. p < n) c → val xor_group (view (word_of st) j) n (lost_row lost c) ≡ val xor_group (st j) n (lost_row lost c)
      same j i c a = val-row xor_group (view (word_of st) j) n (all_filter (is_lost lost) a)
          ∙ sum-ext-in xor_group (all_map (λ p k. word_of-lost st p j k.0 i k.1) (filter-in (is_lost lost) a))
          ∙ sym (val-row xor_group (st j) n (all_filter (is_lost lost) a))

      one : (c : List ℕ) → All (λ p. p < n) c → ((j : ℕ) → val xor_group (st j) n (lost_row lost c) ≡ byte_of j c) → packet_sum s (word_of st) c ≡ replicate s 0
      one c a k = let l = (sum_view s (word_of-sized st) (below_length (word_of st) (word_of-long st) a)).0 in
          ext_get_or 0 _ _ (l ∙ sym (length-replicate s 0)) (λ j i.
          check-split (word_of st) (word_of-long st) (word_of-sized st) (word_of-kept st) j a
          ∙ ap (λ v. bit_xor v (byte_of j c)) (same j (subst (λ k. j < k) l i) c a ∙ k j) ∙ xor_group.self (byte_of j c) ∙ sym (get_d-zeros s j))

  -- ---- bytes within a part that is closed under sums, as those below 256 are
  module _ (P : ℕ → Type 0) (pz : P 0) (pa : (x y : ℕ) → P x → P y → P (bit_xor x y)) (bytes : (p j : ℕ) → P (view b j p)) where
    sum-within : (st : ℕ → ℕ) {c : List ℕ} → All (λ p. P (st p)) c → P (sum_over xor_group st c)
    sum-within st nil = pz
    sum-within st (cons h a) = pa _ _ h (sum-within st a)

    start-within : (j p : ℕ) → p < n → P (view (zero_lost s lost b) j p)
    start-within j p h = by_bool (is_lost lost p)
        (λ t. subst P (sym (ap (λ v. get_or v j 0) (zero_lost-zero s lost b p (subst (λ k. p < k) (sym ok.long) h) t) ∙ get_d-zeros s j)) pz)
        (λ t. subst P (sym (ap (λ v. get_or v j 0) (zero_lost-kept s lost b p t))) (bytes p j))

    sums-within : (j : ℕ) → All (λ c. P (byte_of j c)) cs
    sums-within j = all_map (λ c a. subst P (sym ((sum_view s start-sized (start-low a)).1 j)) (sum-within (view (zero_lost s lost b) j) (all_map (λ p h. start-within j p h) a))) ok.low

    word_of-within : (st : ℕ → ℕ → ℕ) → ((j p : ℕ) → P (st j p)) → All (λ x. All P x) (word_of st)
    word_of-within st h = list_of-all n _ (λ p. list_of-all s _ (λ j. one (is_lost lost p) p j))
      where
        one : (t : Bool) (p j : ℕ) → P (cond t (st j p) (view b j p))
        one true p j = h j p
        one false p j = bytes p j

    module _ (calm : clashes s cs b lost ≡ false) where
      -- a state for each byte
      solved : (j : ℕ) → Solution xor_group (lost_row lost) (byte_of j) P pz pa n cs
      solved j = solution xor_group (lost_row lost) (byte_of j) P pz pa n rows-low (sums-within j)
          (λ m e. clash-none s (lost_row lost) (received_sum s b lost) sums-sized 0 (replicate s 0) (length-replicate s 0) calm m e j ∙ get_d-zeros s j)

      -- nothing clashes: a codeword agrees
      pub agreed_word : List (List ℕ)
      agreed_word = word_of (λ j. (solved j).state)

      -- it is a codeword that agrees ..
      pub agreed-word : Word n s cs b lost agreed_word
      unfolding agreed_word
      agreed-word = word_of-word (λ j. (solved j).state) (λ j. (solved j).meets-all)

      -- .. of such bytes
      pub agreed-within : All (λ x. All P x) agreed_word
      unfolding agreed_word
      agreed-within = word_of-within (λ j. (solved j).state) (λ j. (solved j).within)

      -- ---- where all that agree have one packet, the place is decided
      module _ (p1 : P 1) (some_bytes : 1 ≤ s) (p : ℕ) (h : p < n) (t : is_lost lost p ≡ true)
          (one : (u w : List (List ℕ)) → Word n s cs b lost u → All (λ x. All P x) u → Word n s cs b lost w → All (λ x. All P x) w → get_or u p [] ≡ get_or w p []) where
        -- so no set of places tells it from the checks
        not-told : Apart n (map (lost_row lost) cs) (2 ^ p) → ⊥
        not-told d = flip-clash (first 0) (sym (word_of-lost st p 0 h some_bytes t) ∙ ap (λ v. get_or v 0 0) same ∙ word_of-lost st' p 0 h some_bytes t ∙ ap (λ v. bit_xor (first 0) (cond v 1 0)) on)
          where
            st : ℕ → ℕ → ℕ
            st j = (solved j).state

            st' : ℕ → ℕ → ℕ
            st' j = shifted xor_group (lost_row lost) (byte_of j) (solved j).state d.set 1

            first : ℕ → ℕ
            first j = st j p

            on : d.set p ≡ true
            on = sym (val-pow bool_group d.set n p h) ∙ d.odd

            same : get_or (word_of st) p [] ≡ get_or (word_of st') p []
            same = one (word_of st) (word_of st')
                (word_of-word st (λ j. (solved j).meets-all)) (word_of-within st (λ j. (solved j).within))
                (word_of-word st' (λ j. shifted_even xor_group (lost_row lost) (byte_of j) (solved j).state d.set 1 n cs d.even (solved j).meets-all))
                (word_of-within st' (λ j. shifted-within xor_group (lost_row lost) (byte_of j) P pz pa (solved j).state d.set 1 (solved j).within p1))

            flip-clash : (x : ℕ) → x ≡ bit_xor x 1 → ⊥
            flip-clash x e = let z : ◌≡◌ {A = ℕ} 0 1 = sym (xor_group.self x) ∙ ap (bit_xor x) e ∙ cancel xor_group x 1 in omega arith

        pub one-decided : decided lost cs p ≡ true
        one-decided = by_bool (decided lost cs p) (λ e. e) (λ e. absurd (go e (separate n (map (lost_row lost) cs) (2 ^ p) (pow-lt h) (map-all (lost_row lost) rows-low))))
          where
            go : decided lost cs p ≡ false → Span xor_group (map (lost_row lost) cs) (2 ^ p) ⊎ Apart n (map (lost_row lost) cs) (2 ^ p) → ⊥
            go e (inl q) = false≢true (sym e ∙ sums-complete (map (lost_row lost) cs) (2 ^ p) q)
            go e (inr d) = not-told d
