-- Elimination of the mirrored rows that notes which rows fed a row: it keeps the used checks, the walk back from a place gives the list for it,
-- and solving the set.
use Rattle.std.specs.Prelude.{◌≡◌, Bool, true, false, cond, ℕ, zero, suc, ◌^◌, ◌<◌, length, get_or}
use Rattle.std.proofs.Math.Path.{refl, subst}
use Rattle.std.proofs.Common.{sym, ap, ◌∙◌, le_refl}
use mathlib.Core.List.{List, [], ◌∷◌, map}
use Rattle.std.specs.Int.Bits.{bit_xor}
use Rattle.std.proofs.lemmas.List.{length-map}
use Rattle.decided.specs.Decided.{decided}
use Rattle.gf2.specs.Columns.{is_zero-sound}
use Rattle.gf2.specs.EchelonLaws.{sums-sound, sums-complete, down-path, path-leads, short-lt}
use Rattle.gf2.specs.Gf2.{Group2, xor_group, sum_over, comb, bit, is_zero, onto, row_of, sums, Short, rows_of, down, path, mask_for}
use Rattle.gf2.specs.Group.{eq-zero, left_comm}
use Rattle.gf2.specs.GreedyLaws.{choose-spans}
use Rattle.gf2.specs.MaskLaws.{mask-sums, mask-length}
use Rattle.gf2.specs.OneRowMore.{down-zero}
use Rattle.gf2.specs.PairElimination.{place_in, places-within}
use Rattle.gf2.specs.RowValue.{val, val-row, sum-ext-in, row_lt}
use Rattle.gf2.specs.Span.{Within, span-within, within-trans}
use Rattle.gf2.specs.Unique.{mask-unique}
use Rattle.lists.specs.ListLaws.{all_map, map-all}
use Rattle.lists.specs.Lists.{All, below, from}
use Rattle.lists.specs.Numbers.{from-length}
use Rattle.reasons.specs.Mirror.{mirror, mirror_row, mirror_at, mirrored, sum-map, rows_back, chosen-used, place-back, mirror-decided}
use Rattle.reasons.specs.Reasons.{row_at, used, named, restored_by}
use Rattle.reasons.specs.Trace.{trace, trace-sum}
use Rattle.reasons.specs.Noting.{bits_below, Kept, Numbered, noted}
use Rattle.reasons.specs.Used.{at, chosen, chosen-in, onto-in-order, rows-listed, within-of-all, used_rows, used-indep, from-map}

pub bits-length : (k y : ℕ) → length (bits_below k y) ≡ k
bits-length k y = length-map (from 0 k) (λ i. bit i y) ∙ from-length 0 k

-- the first one apart
below-shift : {A : Type 0} (G : Group2 A) (g : ℕ → A) (k : ℕ) → sum_over G g (below (suc k)) ≡ G.◌⊕◌ (g 0) (sum_over G (λ i. g (suc i)) (below k))
below-shift G g zero = refl
below-shift G g (suc k) = ap (G.◌⊕◌ (g (suc k))) (below-shift G g k) ∙ left_comm G (g (suc k)) (g 0) _

choice-sum : {A : Type 0} (G : Group2 A) (f : ℕ → A) (d : ℕ → Bool) (U : List ℕ)
    → comb G (map d (from 0 (length U))) (map f U) ≡ sum_over G (λ k. cond (d k) (f (get_or U k 0)) G.o) (below (length U))
unfolding from
choice-sum G f d [] = refl
choice-sum G f d (u ∷ U) = head (d 0) (map d (from 1 (length U)))
    ∙ ap (G.◌⊕◌ (cond (d 0) (f u) G.o)) (ap (λ m. comb G m (map f U)) (from-map d 0 (length U)) ∙ choice-sum G f (λ i. d (suc i)) U)
    ∙ sym (below-shift G (λ i. cond (d i) (f (get_or (u ∷ U) i 0)) G.o) (length U))
  where
    head : (b : Bool) (m : List Bool) → comb G (b ∷ m) (f u ∷ map f U) ≡ G.◌⊕◌ (cond b (f u) G.o) (comb G m (map f U))
    head true m = refl
    head false m = sym (G.zl _)

module _ (n : ℕ) {F row num : ℕ → ℕ} {k : ℕ} (h : Numbered F row num k) (x : ℕ) where
  noted-low : All (λ i. i < k) (noted n F num x)
  noted-low = map-all num (all_map (λ q z. h.few q z) (path-leads F n x))

  -- the sum of the rows noted is what was added
  pub noted-sum : down F n x ≡ bit_xor x (val xor_group row k (row_of (noted n F num x)))
  noted-sum = down-path F n x ∙ ap (bit_xor x) (sum-ext-in xor_group (all_map (λ q z. h.is q z) (path-leads F n x))
      ∙ sym (sum-map xor_group row num (path F n x)) ∙ sym (val-row xor_group row k noted-low))

  pub noted-short : Short k (row_of (noted n F num x))
  noted-short = short-lt k (row_of (noted n F num x)) (row_lt k noted-low)

-- ---- all checks
module _ (n : ℕ) (g : List ℕ → ℕ) (cs : List (List ℕ)) {F row feed : ℕ → ℕ} (K : Kept n (at g cs) (chosen g cs) F row feed) where
  gathered : List ℕ
  gathered = onto xor_group is_zero (at g cs) [] (chosen g cs)

  -- the leads are sums of the rows ..
  pub kept_in : Within xor_group (map g cs) (rows_of F n)
  unfolding gathered
  kept_in = places-within xor_group (map g cs) F n (λ q h.
      span-within xor_group (within-trans xor_group (chosen-in g cs) (onto-in-order (at g cs) (chosen g cs)))
      (sums-sound gathered (F q) (sym (K.same (F q)) ∙ sums-complete (rows_of F n) (F q) (place_in xor_group F n q h))))

  -- .. and the rows sums of the leads
  pub kept_out : Within xor_group (rows_of F n) (map g cs)
  unfolding gathered
  kept_out = subst (Within xor_group (rows_of F n)) (rows-listed g cs) (within-of-all (at g cs) (all_map
      (λ j p. sums-sound (rows_of F n) (at g cs j) (K.same (at g cs j) ∙ sums-complete gathered (at g cs j) p))
      (choose-spans xor_group is_zero (at g cs) is_zero-sound refl [] (from 0 (length cs)))))

module _ (n : ℕ) {cs : List (List ℕ)} (low : All (λ c. All (λ p. p < n) c) cs) (lost : List ℕ) {F row feed num : ℕ → ℕ}
    (K : Kept n (mirror_at n lost cs) (chosen (mirror_row n lost) cs) F row feed) (h : Numbered F row num (length (chosen (mirror_row n lost) cs))) (p : ℕ) (pl : p < n) where
  abbrev U : List ℕ
  U = chosen (mirror_row n lost) cs

  -- the place's own row, mirrored
  abbrev place : ℕ
  place = 2 ^ mirror n p

  -- it reduces to zero just if the place is decided
  pub place-decided : is_zero (down F n place) ≡ decided lost cs p
  place-decided = down-zero n K.lead (map (mirror_row n lost) cs) (kept_in n (mirror_row n lost) cs K) (kept_out n (mirror_row n lost) cs K) place
      ∙ mirror-decided n low lost p pl

  -- the rows noted for the place are needed first; then the walk
  abbrev pub needed : ℕ
  needed = trace feed (length U) (row_of (noted n F num place))

  -- where the place reduces to zero, the checks needed sum to it
  needed-sum : is_zero (down F n place) ≡ true → comb xor_group (bits_below (length U) needed) (map (mirror_at n lost cs) U) ≡ place
  needed-sum z = choice-sum xor_group (mirror_at n lost cs) (λ i. bit i needed) U
      ∙ trace-sum xor_group row (λ k. mirror_at n lost cs (get_or U k 0)) feed (length U) K.fed (length U) (le_refl (length U)) (row_of (noted n F num place))
      ∙ sym (eq-zero xor_group place _ (sym (noted-sum n h place) ∙ is_zero-sound (down F n place) z))

  used-sum : is_zero (down F n place) ≡ true → comb xor_group (bits_below (length U) needed) (used_rows lost cs) ≡ 2 ^ p
  used-sum z = ap (λ l. comb xor_group (bits_below (length U) needed) (map (row_at lost cs) l)) (sym (chosen-used n low lost))
      ∙ sym (rows_back n low lost (bits_below (length U) needed) U) ∙ ap (mirrored n) (needed-sum z) ∙ place-back n low lost p pl

  used-is : is_zero (down F n place) ≡ true → sums (used_rows lost cs) (2 ^ p) ≡ true
  used-is z = sums-complete (used_rows lost cs) (2 ^ p) (record { mask = bits_below (length U) needed; sums = used-sum z })

  -- the walk gives the definition's list
  pub traced-list : is_zero (down F n place) ≡ true → named (bits_below (length U) needed) U ≡ restored_by lost cs p
  traced-list z = ap (λ l. named (bits_below (length U) needed) l) (chosen-used n low lost)
      ∙ ap (λ m. named m (used lost cs)) (mask-unique xor_group (used-indep lost cs) (bits_below (length U) needed) (mask_for (used_rows lost cs) (2 ^ p))
      (bits-length (length U) needed ∙ ap length (chosen-used n low lost) ∙ sym (length-map (used lost cs) (row_at lost cs)))
      (mask-length (used_rows lost cs) (2 ^ p))
      (used-sum z ∙ sym (mask-sums (used_rows lost cs) (2 ^ p) (used-is z))))
