-- A table's checks turned into rows of bits: one for each place, and one for each check.
use mathlib.Core.Path.{◌≡◌, refl, sym, ap, ◌∙◌, subst}
use mathlib.Core.Bool.{Bool, true, false, ◌&&◌}
use mathlib.Core.List.{List, [], ◌∷◌, ◌++◌, map, append-nil}
use Prim.Native.Nat.{ℕ, suc, ◌+◌, ◌-◌, ◌%◌, ◌^◌, ◌<◌, ◌≤◌}
use native.Mathlib.Omega.{arith}
use borrow.Author.Tests.{ne_eqb}
use lib.Bits.{bit_xor}
use lib.Dec.{eqb, ltb, leb}
use lib.Seq.{take-suc}
use native.Mathlib.Numerals.{add-one}
use lib.ListN.{length, get_or, take}
use Rattle.lists.specs.ListLaws.{all_map, filter-append, filter_none, filter_same, has-low, map_same}
use Rattle.lists.specs.Lists.{bxor, has, par, filter, from}
use Rattle.lists.specs.Numbers.{from-add, from_all}
use Rattle.lists.specs.Tests.{and_r, by_bool, bxor-assoc, bxor-comm, eqb-self, eqb-true, eqb-false}
use Rattle.gf2.specs.Bit.{bit-zero}
use Rattle.gf2.specs.Gf2.{bit, row_of}
use Rattle.gf2.specs.Places.{bit-row}
use Rattle.table.specs.Accepted.{Accepted, check-count, few-checks}
use Rattle.table.specs.Checks.{check}
use Rattle.table.specs.ChecksLaws.{checks-are, checks-at, check-rises, limits}
use Rattle.table.specs.Table.{places, size, number, checks, rising}
use Rattle.bits.specs.Row.{row, places_in, RowPut}
use Rattle.bits.specs.RowLaws.{flip-bit, row-bit, row_other}
use Rattle.making.specs.Sorted.{rising-low, rising-not, sorted_back}
use Rattle.alist_bits.specs.Loaded.{Flipped, Loaded}

-- ---- one place flipped after another
-- a place more at the end
par-snoc : (c p : ℕ) (l : List ℕ) → par c (l ++ (p ∷ [])) ≡ bxor (eqb c p) (par c l)
par-snoc c p [] = refl
par-snoc c p (q ∷ l) = ap (bxor (eqb c q)) (par-snoc c p l) ∙ sym (bxor-assoc (eqb c q) (eqb c p) (par c l))
    ∙ ap (λ b. bxor b (par c l)) (bxor-comm (eqb c q) (eqb c p)) ∙ bxor-assoc (eqb c p) (eqb c q) (par c l)

-- no place
pub flipped-none : (j : ℕ) (w : List ℕ) → Flipped j [] w w
flipped-none j w = record { len = refl; here = λ c. refl; rest = λ c q n. refl }

module _ {w e : List ℕ} (p j : ℕ) (r : RowPut w p (bit_xor (row w p) (2 ^ j)) e) where
  -- bit j of every row, and the other bits, after bit j of row p is flipped
  here-flipped : (c : ℕ) → bit j (row e c) ≡ bxor (eqb c p) (bit j (row w c))
  here-flipped c = by_bool (eqb c p)
      (λ t. let z = eqb-true c p t in
      rw t (ap (λ x. bit j (row e x)) z ∙ flip-bit j r j ∙ ap (λ b. bxor b (bit j (row w p))) (eqb-self j) ∙ ap (λ x. bxor true (bit j (row w x))) (sym z)))
      (λ t. rw t (ap (bit j) (row_other r c (eqb-false c p t))))

  rest-kept : (c q : ℕ) → (q ≡ j → ⊥) → bit q (row e c) ≡ bit q (row w c)
  rest-kept c q n = by_bool (eqb c p)
      (λ t. let z = eqb-true c p t in
      ap (λ x. bit q (row e x)) z ∙ flip-bit j r q ∙ ap (λ b. bxor b (bit q (row w p))) (ne_eqb q j n) ∙ ap (λ x. bit q (row w x)) (sym z))
      (λ t. ap (bit q) (row_other r c (eqb-false c p t)))

-- one place more
pub flipped-more : {j : ℕ} {w x y : List ℕ} (places : List ℕ) (i p : ℕ) → i < length places → p ≡ get_or places i 0 → Flipped j (take i places) w x
    → RowPut x p (bit_xor (row x p) (2 ^ j)) y → Flipped j (take (i + 1) places) w y
flipped-more {j} {w} places i p h v f r =
    let ps = take i places in
    record {
      len = r.len ∙ f.len;
      here = λ c. here-flipped p j r c ∙ ap (bxor (eqb c p)) (f.here c) ∙ sym (bxor-assoc (eqb c p) (par c ps) (bit j (row w c)))
          ∙ ap (λ b. bxor b (bit j (row w c))) (sym (ap (par c) (rw add-one (take-suc places i 0 h) ∙ ap (λ u. ps ++ (u ∷ [])) (sym v)) ∙ par-snoc c p ps));
      rest = λ c q n. rest-kept p j r c q n ∙ f.rest c q n;
    }

-- ---- check after check
-- before the last
under : (q j : ℕ) → q < j + 1 → (q ≡ j → ⊥) → q < j
under q j h z = omega arith

-- bits below j tell the places of the first j checks, and the others aren't set
pub record Turned (t : List ℕ) (j : ℕ) (w : List ℕ) : Type 0 where
  pub done : (c q : ℕ) → q < j → bit q (row w c) ≡ par c (get_or (checks t) q [])
  pub rest : (c q : ℕ) → q < 1024 → j ≤ q → bit q (row w c) ≡ false

-- rows of zeros
pub turned_none : (t w : List ℕ) → ((p : ℕ) → get_or w p 0 ≡ 0) → Turned t 0 w
turned_none t w z = record {
  done = λ c q h. absurd (omega arith);
  rest = λ c q h l. row-bit w c q h ∙ ap (bit (q % 64)) (z _) ∙ bit-zero (q % 64);
}

-- one check more
pub turned_more : {t w e : List ℕ} {j : ℕ} (c : List ℕ) → j < 1024 → Turned t j w → c ≡ get_or (checks t) j [] → Flipped j c w e → Turned t (j + 1) e
turned_more {t} {w} {e} {j} ps l u i f = record {
  done = λ c q h. by_bool (eqb q j)
      (λ z. let s = eqb-true q j z in
      ap (λ x. bit x (row e c)) s ∙ f.here c ∙ ap (bxor (par c ps)) (u.rest c j l (omega arith)) ∙ bxor-none (par c ps) ∙ ap (par c) i ∙ ap (λ x. par c (get_or (checks t) x [])) (sym s))
      (λ z. let s = eqb-false q j z in f.rest c q s ∙ u.done c q (under q j h s));
  rest = λ c q h k. f.rest c q (λ z. omega arith) ∙ u.rest c q h (omega arith);
}
  where
    bxor-none : (b : Bool) → bxor b false ≡ b
    bxor-none true = refl
    bxor-none false = refl

-- the first j rows are those of the checks
pub record Listed (t : List ℕ) (j : ℕ) (w : List ℕ) : Type 0 where
  pub each : (i : ℕ) → i < j → row w i ≡ row_of (get_or (checks t) i [])

-- no check
pub listed-none : (t w : List ℕ) → Listed t 0 w
listed-none t w = record { each = λ i h. absurd (omega arith) }

-- one check more
pub listed_more : {t w e : List ℕ} {j : ℕ} (c : List ℕ) → Listed t j w → c ≡ get_or (checks t) j [] → RowPut w j (row_of c) e → Listed t (j + 1) e
listed_more {t} {w} {e} {j} c u s r = record {
  each = λ i h. by_bool (eqb i j)
      (λ z. let y = eqb-true i j z in ap (row e) y ∙ r.here ∙ ap row_of s ∙ ap (λ x. row_of (get_or (checks t) x [])) (sym y))
      (λ z. let y = eqb-false i j z in row_other r i y ∙ u.each i (under i j h y));
}

-- ---- all checks
-- no place stands twice
once : (n b : ℕ) (c : List ℕ) (p : ℕ) → rising n b c ≡ true → par p c ≡ has p c
once n b [] p r = refl
once n b (q ∷ c) p r = by_bool (eqb p q)
    (λ e. let z = eqb-true p q e in
    rw e (ap (bxor true) (once n (suc q) c p (and_r (leb b q && ltb q n) _ r) ∙ rising-not n (suc q) p c (omega arith) (and_r (leb b q && ltb q n) _ r))))
    (λ e. rw e (once n (suc q) c p (and_r (leb b q && ltb q n) _ r)))

-- what passes lies below m
filter-low : (f : ℕ → Bool) (m k : ℕ) → m ≤ k → ((q : ℕ) → q < k → m ≤ q → f q ≡ false) → filter f (from 0 k) ≡ filter f (from 0 m)
filter-low f m k h z =
    let e : k ≡ m + (k - m) = omega arith in
    ap (λ x. filter f (from 0 x)) e ∙ ap (filter f) (from-add 0 m (k - m)) ∙ filter-append f (from 0 m) (from (0 + m) (k - m))
    ∙ ap (λ l. filter f (from 0 m) ++ l) (filter_none f (all_map (λ q b. let x = b.0 in let y = b.1 in z q (omega arith) (omega arith)) (from_all (0 + m) (k - m)))) ∙ append-nil (filter f (from 0 m))

module _ (t : List ℕ) (m : ℕ) (k : Accepted t m (places t) (size t)) where
  -- a check ascends
  rises : (q : ℕ) → q < m → rising (places t) 0 (get_or (checks t) q []) ≡ true
  rises q h = let e = k.number_is in
      subst (λ c. rising (places t) 0 c ≡ true) (sym (checks-at t k.accepted q (omega arith))) (check-rises t k.accepted q (omega arith))

  -- the rows of the places have the checks with them
  column-is : {w : List ℕ} → Turned t m w → (c : ℕ) → places_in (row w c) ≡ filter (λ r. has c (get_or (checks t) r [])) (from 0 (length (checks t)))
  column-is {w} u c =
      let f = few-checks t m (places t) (size t) k in
      filter-low (λ q. bit q (row w c)) m 1024 (omega arith) (u.rest c)
      ∙ filter_same (λ q. bit q (row w c)) (λ q. has c (get_or (checks t) q [])) (all_map (λ q b. let h = b.1 in u.done c q (omega arith) ∙ once (places t) 0 (get_or (checks t) q []) c (rises q (omega arith))) (from_all 0 m))
      ∙ ap (λ x. filter (λ r. has c (get_or (checks t) r [])) (from 0 x)) (sym (check-count t m (places t) (size t) k))

  -- the rows of the checks have their places
  row_is : {w : List ℕ} → Listed t m w → (i : ℕ) → i < m → places_in (row w i) ≡ get_or (checks t) i []
  row_is {w} u i h =
      let c = get_or (checks t) i [] in
      let n = places t in
      let f = (limits t k.accepted).few-places in
      filter_same (λ q. bit q (row w i)) (λ q. has q c) (all_map (λ q b. ap (bit q) (u.each i h) ∙ bit-row q c ∙ once n 0 c q (rises i h)) (from_all 0 1024))
      ∙ filter-low (λ q. has q c) n 1024 f (λ q b l. has-low q n l (rising-low n 0 c (rises i h)))
      ∙ sorted_back n c (rises i h)

  -- both
  pub loaded : {columns rows : List ℕ} → Turned t m columns → Listed t m rows → Loaded t m columns rows
  loaded {columns} {rows} u v = record {
    column = column-is u;
    listed = let e = k.number_is in
        map_same (λ r. places_in (row rows r)) (check t (number t))
        (all_map (λ r b. let h = b.1 in row_is v r (omega arith) ∙ checks-at t k.accepted r (omega arith)) (from_all 0 m))
        ∙ ap (λ x. map (check t (number t)) (from 0 x)) e ∙ sym (checks-are t k.accepted);
  }
