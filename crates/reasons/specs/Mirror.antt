-- Rows with their places mirrored, so that a row's highest bit is its lowest place: sums are mirrored sums, so the used checks are the same.
use Rattle.std.specs.Prelude.{◌≡◌, refl, Bool, true, List, [], ◌∷◌, map, ℕ, zero, suc, ◌-◌, ◌^◌, ◌<◌, length, get_or}
use Rattle.std.proofs.Common.{sym, ap, ◌∙◌, arith}
use Rattle.std.proofs.lemmas.Bool.{false≢true}
use Rattle.erasure.specs.Restoring.{is_lost, lost_places}
use Rattle.gf2.specs.EchelonLaws.{sums-sound, sums-complete, short-lt}
use Rattle.gf2.specs.Gf2.{Group2, xor_group, sum_over, comb, is_zero, choose, row_of, sums, Short}
use Rattle.gf2.specs.Linear.{Lin, lin-image}
use Rattle.gf2.specs.RowValue.{val, val-lin, val-row, val-pow, sum-ext-in, row_lt}
use Rattle.lists.specs.ListLaws.{all_map, all_of, all_filter, map-all, map_same}
use Rattle.lists.specs.Lists.{All, All.nil, All.cons, from}
use Rattle.lists.specs.Tests.{by_bool}
use Rattle.decided.specs.Decided.{decided, lost_row}
use Rattle.reasons.specs.Reasons.{row_at, used}
use Rattle.reasons.specs.Used.{rows-listed, chosen}

-- place p stands at bit n - 1 - p
abbrev pub mirror : ℕ → ℕ → ℕ
mirror n p = n - 1 - p

pub mirror-lt : (n p : ℕ) → p < n → mirror n p < n
mirror-lt n p h = omega arith

pub mirror-back : (n p : ℕ) → p < n → mirror n (mirror n p) ≡ p
mirror-back n p h = omega arith

-- the row of a check's lost places, mirrored
abbrev pub mirror_row : ℕ → List ℕ → List ℕ → ℕ
mirror_row n lost c = row_of (map (mirror n) (lost_places lost c))

-- the mirrored row of check j
abbrev pub mirror_at : ℕ → List ℕ → List (List ℕ) → ℕ → ℕ
mirror_at n lost cs j = mirror_row n lost (get_or cs j [])

-- a sum over a list that was mapped
pub sum-map : {A X : Type 0} (G : Group2 A) (g : X → A) (h : ℕ → X) (c : List ℕ) → sum_over G g (map h c) ≡ sum_over G (λ p. g (h p)) c
sum-map G g h [] = refl
sum-map G g h (p ∷ c) = ap (G.◌⊕◌ (g (h p))) (sum-map G g h c)

-- the places of a mirrored row lie below n
pub mirror-low : (n : ℕ) {c : List ℕ} → All (λ p. p < n) c → All (λ p. p < n) (map (mirror n) c)
mirror-low n a = map-all (mirror n) (all_map (λ p h. mirror-lt n p h) a)

pub mirror-short : (n : ℕ) (lost : List ℕ) {c : List ℕ} → All (λ p. p < n) c → Short n (mirror_row n lost c)
mirror-short n lost {c} a = short-lt n (mirror_row n lost c) (row_lt n (mirror-low n (all_filter (is_lost lost) a)))

-- ---- as a linear map
-- the number with the bits below n mirrored
abbrev pub mirrored : ℕ → ℕ → ℕ
mirrored n x = val xor_group (λ p. 2 ^ mirror n p) n x

mirrored-lin : (n : ℕ) → Lin xor_group xor_group (mirrored n)
mirrored-lin n = val-lin xor_group (λ p. 2 ^ mirror n p) n

mirrored-row : (n : ℕ) {c : List ℕ} → All (λ p. p < n) c → mirrored n (row_of c) ≡ row_of (map (mirror n) c)
mirrored-row n {c} a = val-row xor_group (λ p. 2 ^ mirror n p) n a ∙ sym (sum-map xor_group (λ q. 2 ^ q) (mirror n) c)

mirrored-back : (n : ℕ) {c : List ℕ} → All (λ p. p < n) c → mirrored n (row_of (map (mirror n) c)) ≡ row_of c
mirrored-back n {c} a = mirrored-row n (mirror-low n a)
    ∙ sum-map xor_group (λ q. 2 ^ q) (mirror n) (map (mirror n) c) ∙ sum-map xor_group (λ q. 2 ^ mirror n q) (mirror n) c
    ∙ sum-ext-in xor_group (all_map (λ p h. ap (λ q. 2 ^ q) (mirror-back n p h)) a)

-- ---- rows carried there and back by linear maps
module _ {X : Type 0} (g g' : X → ℕ) (φ ψ : ℕ → ℕ) (lin-φ : Lin xor_group xor_group φ) (lin-ψ : Lin xor_group xor_group ψ)
    (there : (x : X) → φ (g x) ≡ g' x) (back : (x : X) → ψ (g' x) ≡ g x) where
  comb-there : (m : List Bool) (ys : List X) → φ (comb xor_group m (map g ys)) ≡ comb xor_group m (map g' ys)
  comb-there m ys = lin-image xor_group xor_group lin-φ g m ys ∙ ap (comb xor_group m) (map_same (λ x. φ (g x)) g' (all_of there ys))

  comb-back : (m : List Bool) (ys : List X) → ψ (comb xor_group m (map g' ys)) ≡ comb xor_group m (map g ys)
  comb-back m ys = lin-image xor_group xor_group lin-ψ g' m ys ∙ ap (comb xor_group m) (map_same (λ x. ψ (g' x)) g (all_of back ys))

  sums-there : (ys : List X) {y y' : ℕ} → φ y ≡ y' → sums (map g ys) y ≡ true → sums (map g' ys) y' ≡ true
  sums-there ys {y} {y'} i e = let p = sums-sound (map g ys) y e in
      sums-complete (map g' ys) y' (record { mask = p.mask; sums = sym (comb-there p.mask ys) ∙ ap φ p.sums ∙ i })

  sums-back : (ys : List X) {y y' : ℕ} → ψ y' ≡ y → sums (map g' ys) y' ≡ true → sums (map g ys) y ≡ true
  sums-back ys {y} {y'} i e = let p = sums-sound (map g' ys) y' e in
      sums-complete (map g ys) y (record { mask = p.mask; sums = sym (comb-back p.mask ys) ∙ ap ψ p.sums ∙ i })

  sums-carried : (ys : List X) {y y' : ℕ} → φ y ≡ y' → ψ y' ≡ y → sums (map g ys) y ≡ sums (map g' ys) y'
  sums-carried ys {y} {y'} i j = by_bool (sums (map g ys) y)
      (λ e. e ∙ sym (sums-there ys i e))
      (λ e. by_bool (sums (map g' ys) y') (λ k. absurd (false≢true (sym e ∙ sums-back ys j k))) (λ k. e ∙ sym k))

  choose-same : (ys xs : List X) → choose xor_group is_zero g (map g ys) xs ≡ choose xor_group is_zero g' (map g' ys) xs
  choose-same ys [] = refl
  choose-same ys (x ∷ xs) = by_bool (sums (map g ys) (g x))
      (λ e. rw (e, choose, sym (sums-carried ys (there x) (back x)) ∙ e) (choose-same ys xs))
      (λ e. rw (e, choose, sym (sums-carried ys (there x) (back x)) ∙ e) (ap (λ l. x ∷ l) (choose-same (x ∷ ys) xs)))

-- ---- the checks' lost rows
module _ (n : ℕ) {cs : List (List ℕ)} (low : All (λ c. All (λ p. p < n) c) cs) (lost : List ℕ) where
  -- also where there is no check
  low-at : (j : ℕ) → All (λ p. p < n) (get_or cs j [])
  low-at j = go low j
    where
      go : {ds : List (List ℕ)} → All (λ c. All (λ p. p < n) c) ds → (j : ℕ) → All (λ p. p < n) (get_or ds j [])
      go nil j = nil
      go (cons a r) zero = a
      go (cons a r) (suc j) = go r j

  at_there : (j : ℕ) → mirrored n (row_at lost cs j) ≡ mirror_at n lost cs j
  at_there j = mirrored-row n (all_filter (is_lost lost) (low-at j))

  at_back : (j : ℕ) → mirrored n (mirror_at n lost cs j) ≡ row_at lost cs j
  at_back j = mirrored-back n (all_filter (is_lost lost) (low-at j))

  -- some of the used checks' rows, mirrored and back
  pub rows_back : (m : List Bool) (ys : List ℕ) → mirrored n (comb xor_group m (map (mirror_at n lost cs) ys)) ≡ comb xor_group m (map (row_at lost cs) ys)
  rows_back m ys = comb-back (row_at lost cs) (mirror_at n lost cs) (mirrored n) (mirrored n) (mirrored-lin n) (mirrored-lin n) at_there at_back m ys

  -- the checks chosen by their mirrored rows are the used ones
  pub chosen-used : chosen (mirror_row n lost) cs ≡ used lost cs
  chosen-used = sym (choose-same (row_at lost cs) (mirror_at n lost cs) (mirrored n) (mirrored n) (mirrored-lin n) (mirrored-lin n) at_there at_back [] (from 0 (length cs)))

  module _ (p : ℕ) (h : p < n) where
    -- a place alone, mirrored and back
    place-there : mirrored n (2 ^ p) ≡ 2 ^ mirror n p
    place-there = val-pow xor_group (λ q. 2 ^ mirror n q) n p h

    pub place-back : mirrored n (2 ^ mirror n p) ≡ 2 ^ p
    place-back = val-pow xor_group (λ q. 2 ^ mirror n q) n (mirror n p) (mirror-lt n p h) ∙ ap (λ q. 2 ^ q) (mirror-back n p h)

    -- it is a sum of the mirrored rows just if it is decided
    pub mirror-decided : sums (map (mirror_row n lost) cs) (2 ^ mirror n p) ≡ decided lost cs p
    mirror-decided = ap (λ R. sums R (2 ^ mirror n p)) (sym (rows-listed (mirror_row n lost) cs))
        ∙ sym (sums-carried (row_at lost cs) (mirror_at n lost cs) (mirrored n) (mirrored n) (mirrored-lin n) (mirrored-lin n) at_there at_back (from 0 (length cs)) place-there place-back)
        ∙ ap (λ R. sums R (2 ^ p)) (rows-listed (lost_row lost) cs)
