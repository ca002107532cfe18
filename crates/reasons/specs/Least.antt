-- The least even set for a lost place that is not decided: there is at most one, and solving over the mirrored rows finds it.
use Rattle.std.specs.Prelude.{◌≡◌, refl, Bool, true, false, cond, List, [], ◌∷◌, map, ℕ, zero, suc, ◌%◌, ◌^◌, ◌<◌, ◌≤◌, eqb, ltb}
use Rattle.std.proofs.Common.{sym, ap, ap₂, ◌∙◌, true≢false, mod-lt, arith, ltb-true, ltb-false}
use Rattle.std.proofs.lemmas.Bool.{false≢true}
use Rattle.std.proofs.Math.Option.{some}
use Rattle.decided.specs.Decided.{decided, lost_row}
use Rattle.erasure.specs.Restoring.{is_lost, lost_places}
use Rattle.gf2.specs.Bit.{bit-pow}
use Rattle.gf2.specs.EchelonLaws.{sums-sound}
use Rattle.gf2.specs.Gf2.{bool_group, xor_group, sum_over, Lead, Short, rows_of, down, row_of, odd}
use Rattle.gf2.specs.OneRowMore.{Stopped}
use Rattle.gf2.specs.Places.{bit-row, sum-filter}
use Rattle.gf2.specs.Rank.{zero-span}
use Rattle.gf2.specs.RowValue.{val-row, val-pow, val-ext, sum-ext-in}
use Rattle.gf2.specs.Separate.{meets}
use Rattle.gf2.specs.Settling.{pow-short}
use Rattle.gf2.specs.Span.{Span, Within, Within.more, within-self}
use Rattle.lists.specs.ListLaws.{all_map, all_filter, all-zip, filter-in, map-all, highest-is, highest-none, highest-over}
use Rattle.lists.specs.Lists.{bxor, par, count, highest, All, All.nil, All.cons}
use Rattle.lists.specs.Tests.{by_bool, by_opt, eqb-true, bxor-self, bxor-none}
use Rattle.reasons.specs.LeastBits.{meets-hom, even_bits, least, least-even, least-odd, least_first, least-within}
use Rattle.reasons.specs.Mirror.{mirror, mirror-lt, mirror-back, mirror-low, mirror_row, sum-map}
use Rattle.reasons.specs.Reasons.{EvenSet, LeastEven}

-- ---- an even number of times
-- check c meets the set an odd number of times
abbrev pub oddly : (ℕ → Bool) → List ℕ → Bool
oddly S c = sum_over bool_group S c

odd-suc : (m : ℕ) → odd (suc m % 2) ≡ bxor true (odd (m % 2))
odd-suc m = go (m % 2) refl (mod-lt m (omega arith))
  where
    go : (r : ℕ) → m % 2 ≡ r → m % 2 < 2 → odd (suc m % 2) ≡ bxor true (odd r)
    go zero e h = let k : suc m % 2 ≡ 1 = omega arith in ap odd k
    go (suc zero) e h = let k : suc m % 2 ≡ 0 = omega arith in ap odd k
    go (suc (suc r)) e h = absurd (omega arith)

oddly-count : (S : ℕ → Bool) (c : List ℕ) → oddly S c ≡ odd (count S c % 2)
oddly-count S [] = refl
oddly-count S (x ∷ c) = by_bool (S x)
    (λ e. rw (e, count) (ap (bxor true) (oddly-count S c) ∙ sym (odd-suc (count S c))))
    (λ e. rw (e, count) (oddly-count S c))

odd-none : (x : ℕ) → odd x ≡ false → x ≡ 0
odd-none zero e = refl
odd-none (suc x) e = absurd (true≢false e)

even-oddly : (S : ℕ → Bool) (c : List ℕ) → count S c % 2 ≡ 0 → oddly S c ≡ false
even-oddly S c e = oddly-count S c ∙ ap odd e

oddly-even : (S : ℕ → Bool) (c : List ℕ) → oddly S c ≡ false → count S c % 2 ≡ 0
oddly-even S c e = odd-none (count S c % 2) (sym (oddly-count S c) ∙ e)

-- ---- at most one
module _ (n : ℕ) (cs : List (List ℕ)) (lost : List ℕ) (p : ℕ) where
  out-false : (S : ℕ → Bool) → EvenSet n cs lost p S → (q : ℕ) → n ≤ q → S q ≡ false
  out-false S e q h = by_bool (S q) (λ t. let k = e.low q t in absurd (omega arith)) (λ t. t)

  pub least-one : (S T : ℕ → Bool) → LeastEven n cs lost p S → LeastEven n cs lost p T → (q : ℕ) → S q ≡ T q
  least-one S T u v q = by_opt (highest n (λ d. bxor (S d) (T d)))
      (λ d e. absurd (clash d e))
      (λ e. by_bool (ltb q n)
      (λ k. bxor-none (S q) (T q) (highest-none n (λ d. bxor (S d) (T d)) e q (ltb-true q n k)))
      (λ k. out-false S u.evenly q (ltb-false q n k) ∙ sym (out-false T v.evenly q (ltb-false q n k))))
    where
      clash : (d : ℕ) → highest n (λ d. bxor (S d) (T d)) ≡ some d → ⊥
      clash d e = ne (a ∙ sym b)
        where
          ne : S d ≡ T d → ⊥
          ne i = true≢false (sym (highest-is n (λ d. bxor (S d) (T d)) d e) ∙ ap (λ x. bxor x (T d)) i ∙ bxor-self (T d))

          above : (q : ℕ) → d < q → S q ≡ T q
          above q h = by_bool (ltb q n)
              (λ k. bxor-none (S q) (T q) (highest-over n (λ d. bxor (S d) (T d)) d q e h (ltb-true q n k)))
              (λ k. out-false S u.evenly q (ltb-false q n k) ∙ sym (out-false T v.evenly q (ltb-false q n k)))

          a : S d ≡ false
          a = u.least T v.evenly d ne above

          b : T d ≡ false
          b = v.least S u.evenly d (λ i. ne (sym i)) (λ q h. sym (above q h))

-- ---- sets and mirrored rows
-- a mirrored set meets a mirrored row as the set meets the row
meets-mirror : (n : ℕ) (S : ℕ → Bool) {c : List ℕ} → All (λ p. p < n) c → meets (λ q. S (mirror n q)) n (row_of (map (mirror n) c)) ≡ oddly S c
meets-mirror n S {c} a = val-row bool_group (λ q. S (mirror n q)) n (mirror-low n a)
    ∙ sum-map bool_group (λ q. S (mirror n q)) (mirror n) c ∙ sum-ext-in bool_group (all_map (λ p h. ap S (mirror-back n p h)) a)

within_all : {X : Type 0} (f : X → ℕ) {S : List ℕ} (cs : List X) → Within xor_group S (map f cs) → All (λ c. Span xor_group S (f c)) cs
within_all f [] w = nil
within_all f (c ∷ cs) (more p w) = cons p (within_all f cs w)

-- a place that is not lost is in no mirrored row
mirror-par : (n : ℕ) (lost : List ℕ) (q : ℕ) → q < n → is_lost lost q ≡ false → {c : List ℕ} → All (λ p. (p < n) × (is_lost lost p ≡ true)) c → par (mirror n q) (map (mirror n) c) ≡ false
mirror-par n lost q h e nil = refl
mirror-par n lost q h e (cons {x = p} {l = c} k a) = ap₂ bxor
    (by_bool (eqb (mirror n q) (mirror n p)) (λ i. let j = eqb-true (mirror n q) (mirror n p) i in let pl = k.0 in let w : p ≡ q = omega arith in absurd (true≢false (sym k.1 ∙ ap (is_lost lost) w ∙ e))) (λ i. i))
    (mirror-par n lost q h e a)

-- a set within the lost places meets a check where its lost places do
oddly-lost : (lost : List ℕ) (S : ℕ → Bool) → ((q : ℕ) → S q ≡ true → is_lost lost q ≡ true) → (c : List ℕ) → oddly S (lost_places lost c) ≡ oddly S c
oddly-lost lost S w c = sum-filter bool_group (is_lost lost) S (λ q e. by_bool (S q) (λ t. absurd (true≢false (sym (w q t) ∙ e))) (λ t. t)) c

module _ (n : ℕ) (cs : List (List ℕ)) (low : All (λ c. All (λ p. p < n) c) cs) (lost : List ℕ) (p : ℕ) (h : p < n) (t : is_lost lost p ≡ true) where
  -- the rows that are eliminated
  abbrev pub mirror_rows : List ℕ
  mirror_rows = map (mirror_row n lost) cs

  -- the place's own row
  abbrev pub unit : ℕ
  unit = 2 ^ mirror n p

  -- any set within the lost places, mirrored
  even-mirror : (T : ℕ → Bool) → EvenSet n cs lost p T → All (λ r. meets (λ q. T (mirror n q)) n r ≡ false) mirror_rows
  even-mirror T e = map-all (mirror_row n lost) (all_map (λ c k. meets-mirror n T (all_filter (is_lost lost) k.0) ∙ oddly-lost lost T e.within c ∙ even-oddly T c k.1) (all-zip low e.even))

  module _ {f : ℕ → ℕ} (l : Lead f) (inn : Within xor_group mirror_rows (rows_of f n)) (out : Within xor_group (rows_of f n) mirror_rows) (s : Stopped f n (down f n unit)) where
    -- the bits by solving
    abbrev bits : ℕ → Bool
    bits = least n l mirror_rows inn out unit s

    -- the places found
    abbrev pub found : ℕ → Bool
    found q = cond (ltb q n) (even_bits n f s.top (mirror n q)) false

    found_in : (q : ℕ) → q < n → found q ≡ bits (mirror n q)
    found_in q k = by_bool (ltb q n) (λ e. ap (λ b. cond b (bits (mirror n q)) false) e) (λ e. let i = ltb-false q n e in absurd (omega arith))

    found-bits : (q : ℕ) → q < n → found (mirror n q) ≡ bits q
    found-bits q k = found_in (mirror n q) (mirror-lt n q k) ∙ ap bits (mirror-back n q k)

    found-low : (q : ℕ) → found q ≡ true → q < n
    found-low q e = by_bool (ltb q n) (λ k. ltb-true q n k) (λ k. absurd (false≢true (sym (ap (λ b. cond b (bits (mirror n q)) false) k) ∙ e)))

    found_within : (q : ℕ) → found q ≡ true → is_lost lost q ≡ true
    found_within q e = by_bool (is_lost lost q) (λ k. k) (λ k. let i = found-low q e in absurd (true≢false (sym e ∙ found_in q i
        ∙ least-within n l mirror_rows inn out unit s (mirror n q) (mirror-lt n q i)
        (map-all (mirror_row n lost) (all_map (λ c a. bit-row (mirror n q) (map (mirror n) (lost_places lost c)) ∙ mirror-par n lost q i k (filter-in (is_lost lost) a)) low))
        (bit-pow (mirror n q) (mirror n p) ∙ by_bool (eqb (mirror n q) (mirror n p)) (λ j. let z = eqb-true (mirror n q) (mirror n p) j in let w : q ≡ p = omega arith in absurd (true≢false (sym t ∙ ap (is_lost lost) (sym w) ∙ k))) (λ j. j)))))

    found-even : EvenSet n cs lost p found
    found-even = record {
      low = found-low;
      within = found_within;
      holds = found_in p h ∙ sym (val-pow bool_group bits n (mirror n p) (mirror-lt n p h)) ∙ least-odd n l mirror_rows inn out unit s;
      even = all_map (λ c k. oddly-even found c (sym (oddly-lost lost found found_within c) ∙ sym (meets-mirror n found (all_filter (is_lost lost) k.0))
          ∙ val-ext bool_group (λ q. found (mirror n q)) bits n (mirror_row n lost c) found-bits ∙ least-even n l mirror_rows inn out unit s (mirror_row n lost c) k.1))
          (all-zip low (within_all (mirror_row n lost) cs (within-self xor_group mirror_rows)));
    }

    -- what solving finds is the least even set
    pub found-least : LeastEven n cs lost p found
    found-least = record {
      evenly = found-even;
      least = λ T e d ne above. by_bool (ltb d n)
          (λ k. let i = ltb-true d n k in found_in d i ∙ least_first n l mirror_rows inn out unit s (λ q. T (mirror n q)) (even-mirror T e)
          (val-pow bool_group (λ q. T (mirror n q)) n (mirror n p) (mirror-lt n p h) ∙ ap T (mirror-back n p h) ∙ e.holds)
          (mirror n d) (mirror-lt n d i)
          (λ q j. let g : q < n = omega arith in sym (above (mirror n q) (omega arith)) ∙ found-bits q g)
          (λ j. ne (found_in d i ∙ sym j ∙ ap T (mirror-back n d i))))
          (λ k. ap (λ b. cond b (bits (mirror n d)) false) k);
    }

  pub unit-short : Short n unit
  unit-short = pow-short (mirror n p) n (mirror-lt n p h)

  -- a decided place has no even set at all
  pub decided-none : decided lost cs p ≡ true → (S : ℕ → Bool) → EvenSet n cs lost p S → ⊥
  decided-none e S v = true≢false (sym v.holds ∙ sym (val-pow bool_group S n p h)
      ∙ zero-span xor_group (meets-hom S n) (map-all (lost_row lost) (all_map (λ c k. val-row bool_group S n (all_filter (is_lost lost) k.0) ∙ oddly-lost lost S v.within c ∙ even-oddly S c k.1) (all-zip low v.even)))
      (sums-sound (map (lost_row lost) cs) (2 ^ p) e))
