-- Laws of the lists of a text: as entries, as walks see them, and in the rows of a board.
use mathlib.Core.Path.{◌≡◌, sym, ap, ap₂, ◌∙◌, subst}
use mathlib.Core.Bool.{Bool, true, false, ◌&&◌}
use mathlib.Core.List.{List, [], ◌∷◌, ◌++◌, map, append-nil}
use Prim.Native.Nat.{ℕ, zero, suc, ◌+◌, ◌-◌, ◌*◌, ◌<◌, ◌≤◌}
use native.Mathlib.Omega.{arith}
use borrow.Author.Tests.{lt-ltb, le-ltb}
use lib.Dec.{eqb, ltb}
use lib.ListN.{length, get_or, take, drop, length-map}
use lib.Seq.{take-nil, take-take, get_or-take, ext_get_or, length-take-le}
use Rattle.lists.specs.ListLaws.{all_map, differ-par, filter-append, filter_none, filter_same, map_at}
use Rattle.lists.specs.Lists.{all_differ, all_pass, bxor, filter, from, has, par}
use Rattle.lists.specs.Numbers.{from-add, from_all, from-length, map-from-at}
use Rattle.lists.specs.Tests.{bxor-comm, and_l, and_r, and_assoc}
use Rattle.gf2.specs.Gf2.{bit}
use Rattle.bits.specs.Row.{row, places_in, rows_in}
use Rattle.alist.specs.Alist.{chunks, entries, counted, right_most, in_range, good_list, good_lists, is_alist, column_entries, row_entries, disagree, sorted_row, alist_checks}
use Rattle.alist.specs.AlistLaws.{agree-all, all-good, chunks-length, entries_at, entries-length, good-at}
use Rattle.walks.specs.Walks.{after, list_at, ListsAhead}
use Rattle.walks.specs.WalksLaws.{after_is}
use Rattle.tiles.specs.Board.{Blank, Flips, in_columns, turned, BandAgrees}
use Rattle.alist_read.specs.Reading.{whole}

-- ---- as walks see them
module _ (count width : ℕ) (ws l : List ℕ) (enough : count ≤ length ws) where
  -- count lists by their weights
  abbrev lists : List (List ℕ)
  lists = entries (take count ws) (chunks count width l)

  pub lists_length : length (entries (take count ws) (chunks count width l)) ≡ count
  lists_length = let t = length-take-le count ws enough in entries-length (take count ws) (chunks count width l) (t ∙ sym (chunks-length count width l)) ∙ t

  pub list-is : (i : ℕ) → i < count → get_or ws i 0 ≤ width → get_or (entries (take count ws) (chunks count width l)) i [] ≡ list_at width ws l i
  list-is i h w = let t = length-take-le count ws enough in
      ap (λ k. get_or (entries (take count ws) (chunks k width l)) i []) (sym t) ∙ entries_at width (take count ws) l i (omega arith)
      ∙ ap₂ (λ v x. take v (take width x)) (get_or-take count ws i 0 h) (sym (after_is i width l)) ∙ take-take (get_or ws i 0) width (after i width l) w

-- ---- good lists, one by one
module _ (most count width : ℕ) (ws l : List ℕ) (enough : count ≤ length ws) where
  weighed : (i : ℕ) → i < count
      → good_list most (get_or (take count ws) i 0) (take width (drop (i * width) l)) ≡ good_list most (get_or ws i 0) (take width (after i width l))
  weighed i h = ap₂ (λ v x. good_list most v (take width x)) (get_or-take count ws i 0 h) (sym (after_is i width l))

  pub good-all : ((i : ℕ) → i < count → good_list most (get_or ws i 0) (take width (after i width l)) ≡ true) → good_lists most (take count ws) (chunks count width l) ≡ true
  good-all h = let t = length-take-le count ws enough in ap (λ k. good_lists most (take count ws) (chunks k width l)) (sym t)
      ∙ all-good most width (take count ws) l (λ i k. let g : i < count = omega arith in weighed i g ∙ h i g)

  pub good-each : good_lists most (take count ws) (chunks count width l) ≡ true → (i : ℕ) → i < count → good_list most (get_or ws i 0) (take width (after i width l)) ≡ true
  good-each h i k = let t = length-take-le count ws enough in
      sym (weighed i k) ∙ good-at most width (take count ws) l (ap (λ c. good_lists most (take count ws) (chunks c width l)) t ∙ h) i (omega arith)

-- a good list's tests
drop-take : (w width : ℕ) (l : List ℕ) → drop w (take width l) ≡ take (width - w) (drop w l)
drop-take zero width l = ap (λ k. take k l) {x = width} {y = width - 0} (omega arith)
drop-take (suc w) zero l = ap (λ k. take k (drop (suc w) l)) {x = 0} {y = 0 - suc w} (omega arith)
drop-take (suc w) (suc width) [] = sym (take-nil (suc width - suc w))
drop-take (suc w) (suc width) (x ∷ l) = drop-take w width l ∙ ap (λ k. take k (drop w l)) {x = width - w} {y = suc width - suc w} (omega arith)

pub good-is : (most w width : ℕ) (l : List ℕ) → w ≤ width
    → good_list most w (take width l) ≡ ((all_pass (in_range most) (take w l) && all_differ (take w l)) && all_pass (λ x. eqb x 0) (take (width - w) (drop w l)))
good-is most w width l h = ap₂ (λ x y. all_pass (in_range most) x && (all_differ x && all_pass (λ x. eqb x 0) y)) (take-take w width l h) (drop-take w width l)
    ∙ sym (and_assoc (all_pass (in_range most) (take w l)) (all_differ (take w l)) (all_pass (λ x. eqb x 0) (take (width - w) (drop w l))))

-- the entries of a good list differ
pub good-differ : (most w width : ℕ) (l : List ℕ) → w ≤ width → good_list most w (take width l) ≡ true → all_differ (take w l) ≡ true
good-differ most w width l h e = sym (ap all_differ (take-take w width l h)) ∙ and_l (all_differ (take w (take width l))) _ (and_r (all_pass (in_range most) (take w (take width l))) _ e)

-- ---- rows in a board
-- the places below n that pass
below-n : (f : ℕ → Bool) (n : ℕ) → n ≤ 1024 → filter (λ p. ltb p n && f p) (from 0 1024) ≡ filter f (from 0 n)
below-n f n h =
    let z : 1024 ≡ n + (1024 - n) = omega arith in
    ap (λ k. filter (λ p. ltb p n && f p) (from 0 k)) z
    ∙ ap (filter (λ p. ltb p n && f p)) (from-add 0 n (1024 - n))
    ∙ filter-append (λ p. ltb p n && f p) (from 0 n) (from (0 + n) (1024 - n))
    ∙ ap₂ (λ x y. x ++ y)
    (filter_same (λ p. ltb p n && f p) f (all_map (λ p i. ap (λ b. b && f p) (lt-ltb p n (let u = i.1 in omega arith))) (from_all 0 n)))
    (filter_none (λ p. ltb p n && f p) (all_map (λ p i. ap (λ b. b && f p) (le-ltb p n (let u = i.0 in omega arith))) (from_all (0 + n) (1024 - n))))
    ∙ append-nil (filter f (from 0 n))

module _ (n m b : ℕ) (vs k w e : List ℕ) (few : n ≤ 1024) (rows : m ≤ 1024) (z : Blank w) (p : Flips w (turned false (in_columns 0 n m (list_at b vs k))) e)
    (enough : m ≤ length vs) (within : (i : ℕ) → i < m → get_or vs i 0 ≤ b) (differ : (i : ℕ) → i < m → all_differ (list_at b vs k i) ≡ true) where
  -- the bits of row i are the places of its list
  row-bits : (i q : ℕ) → i < m → q < 1024 → bit q (row e i) ≡ (ltb q n && has (suc q) (list_at b vs k i))
  row-bits i q h l = let u : 0 + suc q ≡ suc q = omega arith in
      p.each i q (omega arith) l ∙ ap (bxor (in_columns 0 n m (list_at b vs k) q i)) (z i q (omega arith) l) ∙ bxor-comm (in_columns 0 n m (list_at b vs k) q i) false
      ∙ ap (λ t. t && (ltb q n && par (0 + suc q) (list_at b vs k i))) (lt-ltb i m h)
      ∙ ap (λ t. ltb q n && t) (ap (λ x. par x (list_at b vs k i)) u ∙ differ-par (list_at b vs k i) (differ i h) (suc q))

  row_loaded : (i : ℕ) → i < m → places_in (row e i) ≡ sorted_row n (list_at b vs k i)
  row_loaded i h = filter_same (λ q. bit q (row e i)) (λ q. ltb q n && has (suc q) (list_at b vs k i)) (all_map (λ q a. row-bits i q h (let u = a.1 in omega arith)) (from_all 0 1024))
      ∙ below-n (λ q. has (suc q) (list_at b vs k i)) n few

  -- the rows are the lists, sorted
  pub rows-loaded : rows_in e m ≡ map (sorted_row n) (entries (take m vs) (chunks m b k))
  rows-loaded =
      let ll = lists_length m b vs k enough in
      let x = length-map (from 0 m) (λ r. places_in (row e r)) ∙ from-length 0 m in
      let y = length-map (entries (take m vs) (chunks m b k)) (sorted_row n) ∙ ll in
      ext_get_or [] (rows_in e m) (map (sorted_row n) (entries (take m vs) (chunks m b k))) (x ∙ sym y)
      (λ i h. let g : i < m = subst (λ j. i < j) x h in
      map-from-at (λ r. places_in (row e r)) [] m i g ∙ row_loaded i g ∙ ap (sorted_row n) (sym (list-is m b vs k enough i g (within i g)))
      ∙ sym (map_at (sorted_row n) (entries (take m vs) (chunks m b k)) i [] [] (subst (λ j. i < j) (sym ll) g)))

-- ---- the checks of an alist text, loaded
module _ (n m a b : ℕ) (l : List ℕ) (good : is_alist (whole n m a b l) ≡ true) where
  -- the weights of the rows, and what their lists are made of
  abbrev vs : List ℕ
  vs = drop n l

  abbrev rest : List ℕ
  rest = drop (n * a) (drop m (drop n l))

  -- every list is good
  both-good : (good_lists m (take n l) (chunks n a (drop m (drop n l))) ≡ true) × (good_lists n (take m (drop n l)) (chunks m b (drop (n * a) (drop m (drop n l)))) ≡ true)
  both-good = let lists = and_r (right_most (whole n m a b l)) _ (and_r (counted (whole n m a b l)) _ good) in
      (and_l (good_lists m (take n l) (chunks n a (drop m (drop n l)))) _ lists, and_r (good_lists m (take n l) (chunks n a (drop m (drop n l)))) _ lists)

  module _ {text : List ℕ} {cw cl : ℕ} (g : ListsAhead text cw cl n a l (drop m (drop n l))) where
    pub columns-differ : (j : ℕ) → j < n → all_differ (list_at a l (drop m (drop n l)) j) ≡ true
    columns-differ j h = good-differ m (get_or l j 0) a (after j a (drop m (drop n l))) (g.within j h) (good-each m n a l (drop m (drop n l)) g.enough both-good.0 j h)

  module _ {text : List ℕ} {rw rl : ℕ} (g : ListsAhead text rw rl m b (drop n l) (drop (n * a) (drop m (drop n l)))) where
    pub rows-differ : (i : ℕ) → i < m → all_differ (list_at b (drop n l) (drop (n * a) (drop m (drop n l))) i) ≡ true
    rows-differ i h = good-differ n (get_or vs i 0) b (after i b rest) (g.within i h) (good-each n m b vs rest g.enough both-good.1 i h)

    pub checks-loaded : {w e : List ℕ} → n ≤ 1024 → m ≤ 1024 → Blank w → Flips w (turned false (in_columns 0 n m (list_at b (drop n l) (drop (n * a) (drop m (drop n l)))))) e
        → rows_in e m ≡ alist_checks (whole n m a b l)
    checks-loaded {w} {e} few short z p = rows-loaded n m b vs rest w e few short z p g.enough g.within rows-differ

  -- columns and rows agree exactly if their bands do
  module _ {text : List ℕ} {cw cl rw rl : ℕ} (g : ListsAhead text cw cl n a l (drop m (drop n l))) (h : ListsAhead text rw rl m b (drop n l) (drop (n * a) (drop m (drop n l)))) where
    column-has : (j x : ℕ) → j < n → has x (get_or (column_entries (whole n m a b l)) j []) ≡ par x (list_at a l (drop m (drop n l)) j)
    column-has j x k = ap (has x) (list-is n a l (drop m (drop n l)) g.enough j k (g.within j k)) ∙ sym (differ-par (list_at a l (drop m (drop n l)) j) (columns-differ g j k) x)

    row_has : (i x : ℕ) → i < m → has x (get_or (row_entries (whole n m a b l)) i []) ≡ par x (list_at b vs rest i)
    row_has i x k = ap (has x) (list-is m b vs rest h.enough i k (h.within i k)) ∙ sym (differ-par (list_at b vs rest i) (rows-differ h i k) x)

    pub bands-agree : disagree (whole n m a b l) ≡ false → BandAgrees n 0 m (list_at a l (drop m (drop n l))) (list_at b (drop n l) (drop (n * a) (drop m (drop n l))))
    bands-agree e i j p q = let z : 0 + suc i ≡ suc i = omega arith in
        ap (λ x. par x (list_at a l (drop m (drop n l)) j)) z ∙ sym (column-has j (suc i) q)
        ∙ (agree-all (column_entries (whole n m a b l)) (row_entries (whole n m a b l)) n m).0 e i j p q ∙ row_has i (suc j) p

    pub agree-bands : BandAgrees n 0 m (list_at a l (drop m (drop n l))) (list_at b (drop n l) (drop (n * a) (drop m (drop n l)))) → disagree (whole n m a b l) ≡ false
    agree-bands d = (agree-all (column_entries (whole n m a b l)) (row_entries (whole n m a b l)) n m).1
        (λ i j p q. let z : suc i ≡ 0 + suc i = omega arith in column-has j (suc i) q ∙ ap (λ x. par x (list_at a l (drop m (drop n l)) j)) z ∙ d i j p q ∙ sym (row_has i (suc j) p))
