-- The list of used checks for a restored place: it restores the place, is not empty, and is the only one.
use Rattle.std.specs.Prelude.{◌≡◌, refl, Bool, true, false, List, [], ◌∷◌, ℕ, ◌^◌, eqb, length, get_or}
use Rattle.std.proofs.Common.{sym, ap, ap₂, ◌∙◌, true≢false, arith, pow_pos}
use Rattle.std.specs.Int.Bits.{bit_xor}
use Rattle.std.proofs.lemmas.List.{length-map}
use Rattle.decided.specs.Decided.{decided}
use Rattle.erasure.specs.Restoring.{is_lost, lost_places}
use Rattle.gf2.specs.Bit.{bit-adds, bit-zero, bit-pow}
use Rattle.gf2.specs.EchelonLaws.{sums-complete}
use Rattle.gf2.specs.Gf2.{xor_group, bool_group, sum_over, comb, bit, mask_for}
use Rattle.gf2.specs.Group.{eq-zero}
use Rattle.gf2.specs.MaskLaws.{mask-sums, mask-length}
use Rattle.gf2.specs.OneRowMore.{short-zero}
use Rattle.gf2.specs.Places.{bit-row}
use Rattle.gf2.specs.RowValue.{sum-ext}
use Rattle.gf2.specs.Unique.{mask-unique}
use Rattle.lists.specs.ListLaws.{has-par, has-filter}
use Rattle.lists.specs.Lists.{bxor, has, par, filter}
use Rattle.lists.specs.Tests.{by_bool, eqb-true, bxor-self}
use Rattle.reasons.specs.AscendingLaws.{up_from, up-choose, up_named, named_in, named-sum, mask_of, mask-of}
use Rattle.reasons.specs.Reasons.{row_at, used, named, restored_by, Restores}
use Rattle.reasons.specs.Used.{used_rows, used-indep, used-decided}

-- numbers with the same bits
same_number : (a b : ℕ) → ((q : ℕ) → bit q a ≡ bit q b) → a ≡ b
same_number a b h = eq-zero xor_group a b (short-zero (bit_xor a b) (record { above = λ q l. bit-adds q a b ∙ ap (λ x. bxor x (bit q b)) (h q) ∙ bxor-self (bit q b) }))

-- a bit of a sum of rows
bit-sum : {X : Type 0} (q : ℕ) (f : X → ℕ) (L : List X) → bit q (sum_over xor_group f L) ≡ sum_over bool_group (λ j. bit q (f j)) L
bit-sum q f [] = bit-zero q
bit-sum q f (j ∷ L) = bit-adds q (f j) (sum_over xor_group f L) ∙ ap (bxor (bit q (f j))) (bit-sum q f L)

-- a lost place stands in the lost places as often as in the check
par-lost : (f : ℕ → Bool) (q : ℕ) → f q ≡ true → (c : List ℕ) → par q (filter f c) ≡ par q c
par-lost f q t [] = refl
par-lost f q t (x ∷ c) = by_bool (f x)
    (λ e. rw (e, filter) (ap (bxor (eqb q x)) (par-lost f q t c)))
    (λ e. rw (e, filter) (par-lost f q t c ∙ ap (λ b. bxor b (par q c)) (sym (by_bool (eqb q x) (λ k. absurd (true≢false (sym t ∙ ap f (eqb-true q x k) ∙ e))) (λ k. k)))))

module _ (lost : List ℕ) (cs : List (List ℕ)) where
  -- the sum of the lost rows, at a lost place and at another
  lost-bit : (L : List ℕ) (q : ℕ) → is_lost lost q ≡ true → bit q (sum_over xor_group (row_at lost cs) L) ≡ sum_over bool_group (λ j. par q (get_or cs j [])) L
  lost-bit L q t = bit-sum q (row_at lost cs) L ∙ sum-ext bool_group (λ j. bit-row q (lost_places lost (get_or cs j [])) ∙ par-lost (is_lost lost) q t (get_or cs j [])) L

  other-bit : (L : List ℕ) (q : ℕ) → is_lost lost q ≡ false → bit q (sum_over xor_group (row_at lost cs) L) ≡ false
  other-bit [] q t = bit-zero q
  other-bit (j ∷ L) q t = bit-adds q (row_at lost cs j) (sum_over xor_group (row_at lost cs) L)
      ∙ ap₂ bxor (bit-row q (lost_places lost (get_or cs j [])) ∙ has-par q (lost_places lost (get_or cs j [])) (has-filter (is_lost lost) q (get_or cs j []) t)) (other-bit L q t)

  module _ (p : ℕ) where
    -- in the words of the request, or as a sum of rows
    restores-sum : is_lost lost p ≡ true → (L : List ℕ) → Restores lost cs p L → sum_over xor_group (row_at lost cs) L ≡ 2 ^ p
    restores-sum t L r = same_number _ (2 ^ p) (λ q. by_bool (is_lost lost q)
        (λ e. lost-bit L q e ∙ r.sum q e ∙ sym (bit-pow q p))
        (λ e. other-bit L q e ∙ sym (bit-pow q p ∙ by_bool (eqb q p) (λ k. absurd (true≢false (sym t ∙ ap (is_lost lost) (sym (eqb-true q p k)) ∙ e))) (λ k. k))))

    list-sum : decided lost cs p ≡ true → sum_over xor_group (row_at lost cs) (restored_by lost cs p) ≡ 2 ^ p
    list-sum d = named-sum xor_group (row_at lost cs) (mask_for (used_rows lost cs) (2 ^ p)) (used lost cs) ∙ mask-sums (used_rows lost cs) (2 ^ p) (used-decided lost cs p ∙ d)

    -- the list restores the place
    pub list-restores : decided lost cs p ≡ true → Restores lost cs p (restored_by lost cs p)
    list-restores d = record {
      used-only = named_in (mask_for (used_rows lost cs) (2 ^ p)) (used lost cs);
      ascending = up_named (mask_for (used_rows lost cs) (2 ^ p)) (up-choose (row_at lost cs) [] (up_from 0 (length cs)));
      sum = λ q e. sym (lost-bit (restored_by lost cs p) q e) ∙ ap (bit q) (list-sum d) ∙ bit-pow q p;
    }

    -- it is not empty
    pub list-some : decided lost cs p ≡ true → restored_by lost cs p ≡ [] → ⊥
    list-some d e = let k = pow_pos p in let z : ◌≡◌ {A = ℕ} 0 (2 ^ p) = ap (sum_over xor_group (row_at lost cs)) (sym e) ∙ list-sum d in omega arith

    module _ (t : is_lost lost p ≡ true) (L : List ℕ) (r : Restores lost cs p L) where
      -- the mask of such a list
      listed : named (mask_of L (used lost cs)) (used lost cs) ≡ L
      listed = mask-of (up-choose (row_at lost cs) [] (up_from 0 (length cs))) r.ascending r.used-only

      mask-sum : comb xor_group (mask_of L (used lost cs)) (used_rows lost cs) ≡ 2 ^ p
      mask-sum = sym (named-sum xor_group (row_at lost cs) (mask_of L (used lost cs)) (used lost cs)) ∙ ap (sum_over xor_group (row_at lost cs)) listed ∙ restores-sum t L r

      -- a list that restores the place decides it
      pub restores-decided : decided lost cs p ≡ true
      restores-decided = sym (used-decided lost cs p) ∙ sums-complete (used_rows lost cs) (2 ^ p) (record { mask = mask_of L (used lost cs); sums = mask-sum })

      -- and is the list
      pub only-list : L ≡ restored_by lost cs p
      only-list = sym listed ∙ ap (λ m. named m (used lost cs)) (mask-unique xor_group (used-indep lost cs) (mask_of L (used lost cs)) (mask_for (used_rows lost cs) (2 ^ p))
          (length-map (used lost cs) (λ u. has u L) ∙ sym (length-map (used lost cs) (row_at lost cs)))
          (mask-length (used_rows lost cs) (2 ^ p))
          (mask-sum ∙ sym (mask-sums (used_rows lost cs) (2 ^ p) (used-decided lost cs p ∙ restores-decided))))
