-- The filled rows with the staircase are the RFC's checks.
use mathlib.Core.Path.{◌≡◌, refl, sym, ap, ap₂, ◌∙◌}
use mathlib.Core.Bool.{Bool, true, false, ◌||◌}
use mathlib.Core.List.{List, [], ◌∷◌, ◌++◌, map}
use Prim.Native.Nat.{ℕ, zero, suc, ◌+◌, ◌<◌, ◌≤◌}
use native.Mathlib.Omega.{arith}
use borrow.Author.Tests.{ltb-true, ltb-false}
use lib.Dec.{eqb, ltb}
use lib.ListN.{length, get_or}
use Rattle.gf2.specs.Bit.{bit-adds}
use Rattle.gf2.specs.Gf2.{bit, row_of}
use Rattle.gf2.specs.Places.{bit-row}
use Rattle.lists.specs.ListLaws.{all_map, all_get_d, filter_same, has_above, has-append}
use Rattle.lists.specs.Lists.{All, bxor, from, has, par}
use Rattle.lists.specs.Numbers.{from_all}
use Rattle.lists.specs.Tests.{by_bool, eqb-true, eqb-lt, not_same}
use Rattle.bits.specs.Row.{row, places_in, rows_in}
use Rattle.making.specs.Sorted.{rising-low, sorted_back}
use Rattle.fill.specs.Fill.{State}
use Rattle.fill.specs.Held.{FilledIn}
use Rattle.staircase.specs.Ascending.{check-rises, sources-has, sources-rise, stair-not}
use Rattle.staircase.specs.Staired.{Staired}
use Rattle.staircase.specs.Stairs.{stair, stairs_from, sources, checks_of}

-- ---- tests
bxor-none : (a : Bool) → bxor a false ≡ (a || false)
bxor-none true = refl
bxor-none false = refl

-- no place stands twice in a stair
stair-once : (k i q : ℕ) → par q (stair k i) ≡ has q (stair k i)
stair-once k zero q = bxor-none (eqb q (k + 0))
stair-once k (suc i) q = by_bool (eqb q (k + i))
    (λ t. let z = eqb-true q (k + i) t in rw (t, eqb-lt q (k + suc i) (omega arith)))
    (λ t. rw t (bxor-none (eqb q (k + suc i))))

-- ---- rows as checks
stairs-listed : (g : ℕ → List ℕ) (k i : ℕ) (rs : List (List ℕ)) → ((q : ℕ) → q < length rs → g (i + q) ≡ sources k (get_or rs q []) ++ stair k (i + q))
    → map g (from i (length rs)) ≡ stairs_from k i (map (sources k) rs)
unfolding from
stairs-listed g k i [] h = refl
stairs-listed g k i (r ∷ rs) h =
    let z : i + 0 ≡ i = omega arith in
    ap₂ ◌∷◌ (sym (ap g z) ∙ h 0 (omega arith) ∙ ap (λ x. sources k r ++ stair k x) z)
    (stairs-listed g k (suc i) rs (λ q l. let y : suc i + q ≡ i + suc q = omega arith in ap g y ∙ h (suc q) (omega arith) ∙ ap (λ x. sources k (get_or rs q []) ++ stair k x) (sym y)))

module _ (k m : ℕ) (w e : List ℕ) (s : State) (f : FilledIn k m w s) (st : Staired k m w e) (low : k + m ≤ 1024) where
  -- check i, from the filled row
  abbrev check : ℕ → List ℕ
  check i = sources k (get_or s.rows i []) ++ stair k i

  -- a place of a filled row is a source
  row_low : (i : ℕ) → i < m → All (λ p. p < k) (get_or s.rows i [])
  row_low i h = (all_get_d f.each i (let l = f.long in omega arith)).1

  bits_are : (i q : ℕ) → i < m → q < 1024 → bit q (row e i) ≡ has q (check i)
  bits_are i q h l =
      ap (bit q) (st.done i h) ∙ bit-adds q (row w i) (row_of (stair k i))
      ∙ ap₂ bxor (not_same (bit q (row w i)) (has q (get_or s.rows i [])) (f.cells i q h l)) (bit-row q (stair k i) ∙ stair-once k i q)
      ∙ by_bool (ltb q k)
      (λ t. let a = ltb-true q k t in
      ap (bxor (has q (get_or s.rows i []))) (stair-not k i q a) ∙ bxor-none (has q (get_or s.rows i []))
      ∙ ap₂ ◌||◌ (sym (sources-has k q (get_or s.rows i []) a)) (sym (stair-not k i q a)))
      (λ t. let a = ltb-false q k t in
      ap (λ x. bxor x (has q (stair k i))) (has_above q (all_map (λ p b. omega arith) (row_low i h)))
      ∙ ap (λ x. x || has q (stair k i)) (sym (has_above q (all_map (λ p b. omega arith) (rising-low k 0 (sources k (get_or s.rows i [])) (sources-rise k (get_or s.rows i [])))))))
      ∙ sym (has-append q (sources k (get_or s.rows i [])) (stair k i))

  places-are : (i : ℕ) → i < m → places_in (row e i) ≡ check i
  places-are i h =
      filter_same (λ p. bit p (row e i)) (λ p. has p (check i)) (all_map (λ p l. let b = l.1 in bits_are i p h (omega arith)) (from_all 0 1024))
      ∙ sorted_back 1024 (check i) (check-rises 1024 k i (get_or s.rows i []) (omega arith))

  pub rows_made : rows_in e m ≡ checks_of k s
  rows_made =
      ap (λ c. map (λ r. places_in (row e r)) (from 0 c)) (sym f.long)
      ∙ stairs-listed (λ r. places_in (row e r)) k 0 s.rows (λ q h. let z : 0 + q ≡ q = omega arith in
      let l = f.long in
      ap (λ x. places_in (row e x)) z ∙ places-are q (omega arith) ∙ ap (λ x. sources k (get_or s.rows q []) ++ stair k x) (sym z))
