-- is-alist, agree-says: the causes of 12 and 13 in the numbers of a text, said by where these stand. With `read-refusals`
-- (theorems/specs/Refusals.antt) they say exactly when 12 and 13 are answered.
use Rattle.std.specs.Prelude.{◌≡◌, refl, true, false, not, List, [], ◌∷◌, ◌↔◌, ◌≢◌, ℕ, zero, suc, ◌+◌, ◌-◌, ◌*◌, ◌<◌, ◌≤◌, max, eqb, ltb, leb, length, get_or, take, drop}
use Rattle.std.proofs.Common.{sym, ap, ap₂, ◌∙◌, subst, suc-mul, mul-le-mul_right, arith, leb-true, le-leb, ltb-true, ltb-false, eq-eqb, length-drop, drop-drop, get_or-drop, get_or-take, length-take-le}
use Rattle.std.proofs.lemmas.Bool.{false≢true}
use Rattle.lists.specs.ListLaws.{all-at, all_in, all-index, all_pass_lem, get_d-has, pass_all}
use Rattle.lists.specs.Lists.{all_differ, all_pass, has}
use Rattle.lists.specs.Tests.{and_both, and_l, and_r, by_bool, eqb-false, eqb-true, or_l, or_r}
use Rattle.alist.specs.Alist.{column_count, row_count, column_most, row_most, after_weights, after_columns, column_weights, row_weights, column_lists, row_lists}
use Rattle.alist.specs.Alist.{chunks, entries, column_entries, row_entries, counted, greatest, right_most, in_range, good_list, good_lists, is_alist, disagree}
use Rattle.alist.specs.AlistLaws.{agree-all, all-good, entries_at, good-at, greatest-all, greatest-most}

-- ---- the statement
-- a is the greatest of some weights, 0 if there are none
pub record Greatest (a : ℕ) (ws : List ℕ) : Type 0 where
  pub above : (i : ℕ) → i < length ws → get_or ws i 0 ≤ a
  pub reached : a ≢ 0 → has a ws ≡ true

-- a list of weight w: so many entries from 1 to most, all different, and zeros behind them
pub record ListSays (most w : ℕ) (l : List ℕ) : Type 0 where
  pub range : (i : ℕ) → i < w → (1 ≤ get_or l i 0) × (get_or l i 0 ≤ most)
  pub differ : (i j : ℕ) → i < j → j < w → get_or l i 0 ≢ get_or l j 0
  pub padding : (i : ℕ) → w ≤ i → i < length l → get_or l i 0 ≡ 0

-- the numbers l of a text for n columns and m rows of greatest weights a and b: these four, n weights, m weights, n lists of a numbers
-- and m lists of b
pub record AlistSays (n m a b : ℕ) (l : List ℕ) : Type 0 where
  pub count : length l ≡ 4 + n + m + n * a + m * b
  pub column-most : Greatest a (take n (drop 4 l))
  pub row-most : Greatest b (take m (drop (4 + n) l))
  pub columns : (c : ℕ) → c < n → ListSays m (get_or l (4 + c) 0) (take a (drop (4 + n + m + c * a) l))
  pub rows : (r : ℕ) → r < m → ListSays n (get_or l (4 + n + r) 0) (take b (drop (4 + n + m + n * a + r * b) l))

-- the entries of column c and of row r
abbrev pub column_at : ℕ → ℕ → ℕ → List ℕ → ℕ → List ℕ
column_at n m a l c = take (get_or l (4 + c) 0) (take a (drop (4 + n + m + c * a) l))

abbrev pub row_at : ℕ → ℕ → ℕ → ℕ → List ℕ → ℕ → List ℕ
row_at n m a b l r = take (get_or l (4 + n + r) 0) (take b (drop (4 + n + m + n * a + r * b) l))

-- ---- greatest weights
-- it is one of them
greatest-has : (ws : List ℕ) → greatest ws ≢ 0 → has (greatest ws) ws ≡ true
greatest-has [] n = absurd (n refl)
greatest-has (x ∷ ws) n = by_bool (ltb x (greatest ws))
    (λ t. let u = ltb-true x (greatest ws) t in let e : greatest ws ≡ max x (greatest ws) = omega arith in
    or_r (eqb (max x (greatest ws)) x) _ (subst (λ k. has k ws ≡ true) e (greatest-has ws (λ z. n (sym e ∙ z)))))
    (λ f. let u = ltb-false x (greatest ws) f in or_l (eqb (max x (greatest ws)) x) _ (eq-eqb (max x (greatest ws)) x (omega arith)))

greatest-says : (ws : List ℕ) → Greatest (greatest ws) ws
greatest-says ws = record { above = all-at 0 (greatest-all ws); reached = greatest-has ws }

-- there is no other
greatest-is : (a : ℕ) (ws : List ℕ) → Greatest a ws → greatest ws ≡ a
greatest-is a ws g =
    let u = greatest-most a (all-index ws g.above) in
    let v : a ≤ greatest ws = by_bool (eqb a 0)
    (λ z. let e = eqb-true a 0 z in omega arith)
    (λ z. all_in (λ x. x ≤ greatest ws) a (g.reached (eqb-false a 0 z)) (greatest-all ws)) in
    omega arith

-- ---- one list
-- entries that differ, by where they stand
differ-at : (l : List ℕ) → all_differ l ≡ true → (i j : ℕ) → i < j → j < length l → get_or l i 0 ≢ get_or l j 0
differ-at [] d i j h k = absurd (omega arith)
differ-at (x ∷ l) d zero zero h k = absurd (omega arith)
differ-at (x ∷ l) d zero (suc j) h k = λ e.
    let t : has x l ≡ true = ap (λ y. has y l) e ∙ get_d-has l j (omega arith) in
    false≢true (sym (ap not t) ∙ and_l (not (has x l)) _ d)
differ-at (x ∷ l) d (suc i) zero h k = absurd (omega arith)
differ-at (x ∷ l) d (suc i) (suc j) h k = differ-at l (and_r (not (has x l)) _ d) i j (omega arith) (omega arith)

at-differ : (l : List ℕ) → ((i j : ℕ) → i < j → j < length l → get_or l i 0 ≢ get_or l j 0) → all_differ l ≡ true
at-differ [] d = refl
at-differ (x ∷ l) d = and_both (not (has x l)) _
    (by_bool (has x l) (λ t. absurd (all_in (λ y. x ≢ y) x t (all-index l (λ k h. d 0 (suc k) (omega arith) (omega arith))) refl)) (λ f. ap not f))
    (at-differ l (λ i j h k. d (suc i) (suc j) (omega arith) (omega arith)))

list-says : (most w : ℕ) (l : List ℕ) → w ≤ length l → (good_list most w l ≡ true) ↔ ListSays most w l
list-says most w l h =
    let t : length (take w l) ≡ w = length-take-le w l h in
    let d : length (drop w l) ≡ length l - w = length-drop w l in (
      (λ g. let r = and_l (all_pass (in_range most) (take w l)) _ g in let s = and_r (all_pass (in_range most) (take w l)) _ g in record {
        range = λ i k.
            let v : in_range most (get_or l i 0) ≡ true = ap (in_range most) (sym (get_or-take w l i 0 k)) ∙ all-at 0 (pass_all (in_range most) (take w l) r) i (omega arith) in
            (leb-true 1 (get_or l i 0) (and_l (leb 1 (get_or l i 0)) _ v), leb-true (get_or l i 0) most (and_r (leb 1 (get_or l i 0)) _ v));
        differ = λ i j k z e. differ-at (take w l) (and_l (all_differ (take w l)) _ s) i j k (omega arith)
            (get_or-take w l i 0 (omega arith) ∙ e ∙ sym (get_or-take w l j 0 z));
        padding = λ i k z.
            let e : w + (i - w) ≡ i = omega arith in
            ap (λ x. get_or l x 0) (sym e) ∙ sym (get_or-drop w l (i - w) 0)
            ∙ eqb-true (get_or (drop w l) (i - w) 0) 0 (all-at 0 (pass_all (λ x. eqb x 0) (drop w l) (and_r (all_differ (take w l)) _ s)) (i - w) (omega arith));
      }),
      (λ g. and_both (all_pass (in_range most) (take w l)) _
          (all_pass_lem (in_range most) (all-index (take w l) (λ k z. let y : k < w = omega arith in
          ap (in_range most) (get_or-take w l k 0 y)
          ∙ and_both (leb 1 (get_or l k 0)) _ (le-leb 1 (get_or l k 0) (g.range k y).0) (le-leb (get_or l k 0) most (g.range k y).1))))
          (and_both (all_differ (take w l)) _
          (at-differ (take w l) (λ i j k z e. let y : j < w = omega arith in
          g.differ i j k y (sym (get_or-take w l i 0 (omega arith)) ∙ e ∙ get_or-take w l j 0 y)))
          (all_pass_lem (λ x. eqb x 0) (all-index (drop w l) (λ k z. eq-eqb (get_or (drop w l) k 0) 0 (get_or-drop w l k 0 ∙ g.padding (w + k) (omega arith) (omega arith))))))),
    )

-- ---- all lists
-- count lists of w numbers from lists on, whose weights stand from at on
module _ (l : List ℕ) (count w at lists : ℕ) (weights : at + count ≤ length l) where
  abbrev ws : List ℕ
  ws = take count (drop at l)

  count-is : length ws ≡ count
  count-is = let d = length-drop at l in length-take-le count (drop at l) (omega arith)

  weight_is : (c : ℕ) → c < count → get_or ws c 0 ≡ get_or l (at + c) 0
  weight_is c h = get_or-take count (drop at l) c 0 h ∙ get_or-drop at l c 0

  list-is : (c : ℕ) → take w (drop (c * w) (drop lists l)) ≡ take w (drop (lists + c * w) l)
  list-is c = ap (take w) (drop-drop (c * w) lists l)

  entries-are : (c : ℕ) → c < count → get_or (entries ws (chunks count w (drop lists l))) c [] ≡ take (get_or l (at + c) 0) (take w (drop (lists + c * w) l))
  entries-are c h = let z = count-is in
      ap (λ k. get_or (entries ws (chunks k w (drop lists l))) c []) (sym z) ∙ entries_at w ws (drop lists l) c (omega arith) ∙ ap₂ take (weight_is c h) (list-is c)

  module _ (most : ℕ) (room : lists + count * w ≤ length l) (above : (i : ℕ) → i < length ws → get_or ws i 0 ≤ w) where
    -- a weight is within its list
    within : (c : ℕ) → c < count → get_or l (at + c) 0 ≤ length (take w (drop (lists + c * w) l))
    within c h =
        let s = suc-mul c w in
        let g : suc c * w ≤ count * w = mul-le-mul_right w h in
        let d = length-drop (lists + c * w) l in
        let long : length (take w (drop (lists + c * w) l)) ≡ w = length-take-le w (drop (lists + c * w) l) (omega arith) in
        let u = weight_is c h in
        let z = count-is in
        let v = above c (omega arith) in
        omega arith

    lists-say : (good_lists most ws (chunks count w (drop lists l)) ≡ true)
        ↔ ((c : ℕ) → c < count → ListSays most (get_or l (at + c) 0) (take w (drop (lists + c * w) l)))
    lists-say = let z = count-is in (
      (λ g c h. (list-says most (get_or l (at + c) 0) (take w (drop (lists + c * w) l)) (within c h)).0
          (ap₂ (good_list most) (sym (weight_is c h)) (sym (list-is c))
          ∙ good-at most w ws (drop lists l) (ap (λ k. good_lists most ws (chunks k w (drop lists l))) z ∙ g) c (omega arith))),
      (λ g. ap (λ k. good_lists most ws (chunks k w (drop lists l))) (sym z)
          ∙ all-good most w ws (drop lists l) (λ c k. let h : c < count = omega arith in
          ap₂ (good_list most) (weight_is c h) (list-is c) ∙ (list-says most (get_or l (at + c) 0) (take w (drop (lists + c * w) l)) (within c h)).1 (g c h))),
    )

-- ---- the numbers of a text
module _ (l : List ℕ) where
  abbrev n : ℕ
  n = column_count l

  abbrev m : ℕ
  m = row_count l

  abbrev a : ℕ
  a = column_most l

  abbrev b : ℕ
  b = row_most l

  -- where the rows' weights begin, the columns' lists and the rows' lists
  weights-at : drop n (drop 4 l) ≡ drop (4 + n) l
  weights-at = drop-drop n 4 l

  columns-at : after_weights l ≡ drop (4 + n + m) l
  columns-at = ap (drop m) weights-at ∙ drop-drop m (4 + n) l

  rows_at : after_columns l ≡ drop (4 + n + m + n * a) l
  rows_at = ap (drop (n * a)) columns-at ∙ drop-drop (n * a) (4 + n + m) l

  column-lists : good_lists m (column_weights l) (column_lists l) ≡ good_lists m (take n (drop 4 l)) (chunks n a (drop (4 + n + m) l))
  column-lists = ap (λ x. good_lists m (column_weights l) (chunks n a x)) columns-at

  row-lists : good_lists n (row_weights l) (row_lists l) ≡ good_lists n (take m (drop (4 + n) l)) (chunks m b (drop (4 + n + m + n * a) l))
  row-lists = ap₂ (λ x y. good_lists n (take m x) (chunks m b y)) weights-at rows_at

  pub is-alist : (is_alist l ≡ true) ↔ AlistSays n m a b l
  is-alist = (
    (λ h.
        let full = eqb-true (length l) (4 + n + m + n * a + m * b) (and_l (counted l) _ h) in
        let most = and_l (right_most l) _ (and_r (counted l) _ h) in
        let good = and_r (right_most l) _ (and_r (counted l) _ h) in
        let p : Greatest a (take n (drop 4 l)) =
        subst (λ x. Greatest x (column_weights l)) (eqb-true (greatest (column_weights l)) a (and_l (eqb (greatest (column_weights l)) a) _ most)) (greatest-says (column_weights l)) in
        let q : Greatest b (take m (drop (4 + n) l)) = subst (λ x. Greatest b (take m x)) weights-at
        (subst (λ x. Greatest x (row_weights l)) (eqb-true (greatest (row_weights l)) b (and_r (eqb (greatest (column_weights l)) a) _ most)) (greatest-says (row_weights l))) in
        record {
          count = full;
          column-most = p;
          row-most = q;
          columns = (lists-say l n a 4 (4 + n + m) (omega arith) m (omega arith) p.above).0 (sym column-lists ∙ and_l (good_lists m (column_weights l) (column_lists l)) _ good);
          rows = (lists-say l m b (4 + n) (4 + n + m + n * a) (omega arith) n (omega arith) q.above).0 (sym row-lists ∙ and_r (good_lists m (column_weights l) (column_lists l)) _ good);
        }),
    (λ s.
        let full = s.count in
        and_both (counted l) _ (eq-eqb (length l) (4 + n + m + n * a + m * b) full)
        (and_both (right_most l) _
        (and_both (eqb (greatest (column_weights l)) a) _ (eq-eqb (greatest (column_weights l)) a (greatest-is a (column_weights l) s.column-most))
        (eq-eqb (greatest (row_weights l)) b (ap (λ x. greatest (take m x)) weights-at ∙ greatest-is b (take m (drop (4 + n) l)) s.row-most)))
        (and_both (good_lists m (column_weights l) (column_lists l)) _
        (column-lists ∙ (lists-say l n a 4 (4 + n + m) (omega arith) m (omega arith) s.column-most.above).1 s.columns)
        (row-lists ∙ (lists-say l m b (4 + n) (4 + n + m + n * a) (omega arith) n (omega arith) s.row-most.above).1 s.rows)))),
  )

  -- ---- entries, if there are as many numbers as the sizes say
  module _ (full : length l ≡ 4 + n + m + n * a + m * b) where
    pub column-is : (c : ℕ) → c < n → get_or (column_entries l) c [] ≡ column_at n m a l c
    column-is c h = ap (λ x. get_or (entries (column_weights l) (chunks n a x)) c []) columns-at ∙ entries-are l n a 4 (4 + n + m) (omega arith) c h

    pub row_is : (r : ℕ) → r < m → get_or (row_entries l) r [] ≡ row_at n m a b l r
    row_is r h = ap₂ (λ x y. get_or (entries (take m x) (chunks m b y)) r []) weights-at rows_at ∙ entries-are l m b (4 + n) (4 + n + m + n * a) (omega arith) r h

    -- 13 has no cause just if of each row and column each names the other or neither does
    pub agree-says : (disagree l ≡ false) ↔ ((r c : ℕ) → r < m → c < n → has (suc r) (column_at n m a l c) ≡ has (suc c) (row_at n m a b l r))
    agree-says = let e = agree-all (column_entries l) (row_entries l) n m in (
      (λ d r c h k. ap (has (suc r)) (sym (column-is c k)) ∙ e.0 d r c h k ∙ ap (has (suc c)) (row_is r h)),
      (λ g. e.1 (λ r c h k. ap (has (suc r)) (column-is c k) ∙ g r c h k ∙ ap (has (suc c)) (sym (row_is r h)))),
    )
