-- The parts of written lines are found again: weights, padded lists and their entries; lists of good entries are an alist text's.
use Rattle.std.specs.Prelude.{◌≡◌, refl, true, List, [], ◌∷◌, ◌++◌, map, ℕ, zero, suc, ◌+◌, ◌-◌, ◌*◌, ◌≤◌, eqb, length, take, drop, replicate}
use Rattle.std.proofs.Common.{sym, ap, ap₂, ◌∙◌, append_assoc, append-nil, suc-mul, arith, eq-eqb, length-append, take_at, drop_at}
use Rattle.std.proofs.lemmas.List.{length-map, length-replicate}
use Rattle.lists.specs.ListLaws.{all_map, all-unmap, map-all}
use Rattle.lists.specs.Lists.{All, All.nil, All.cons, all_differ, all_pass}
use Rattle.lists.specs.Tests.{and_both, eqb-self}
use Rattle.making.specs.Written.{flat}
use Rattle.alist.specs.Alist.{column_weights, row_weights, after_column_weights, after_weights, after_columns, column_lists, row_lists, chunks, entries, column_entries, row_entries}
use Rattle.alist.specs.Alist.{counted, greatest, in_range, good_list, good_lists, is_alist}
use Rattle.alist.specs.AlistLaws.{greatest-all}
use Rattle.alist.specs.AlistText.{padded, padded_all, alist_lines}

-- ---- lists of one length
-- one after another
flat_append : (a b : List (List ℕ)) → flat (a ++ b) ≡ flat a ++ flat b
flat_append [] b = refl
flat_append (l ∷ a) b = ap (λ x. l ++ x) (flat_append a b) ∙ sym (append_assoc l (flat a) (flat b))

-- how long they are together
flat-long : (w : ℕ) {ls : List (List ℕ)} → All (λ l. length l ≡ w) ls → length (flat ls) ≡ length ls * w
flat-long w nil = omega arith
flat-long w (cons {x = l} {l = ls} e a) = let ih = flat-long w a in let s = suc-mul (length ls) w in let b = length-append l (flat ls) in omega arith

-- they are cut out again
chunks-back : (w : ℕ) {ls : List (List ℕ)} → All (λ l. length l ≡ w) ls → (rest : List ℕ) → chunks (length ls) w (flat ls ++ rest) ≡ ls
chunks-back w nil rest = refl
chunks-back w (cons {x = l} {l = ls} e a) rest = ap (chunks (suc (length ls)) w) (append_assoc l (flat ls) rest)
    ∙ ap₂ ◌∷◌ (take_at l (flat ls ++ rest) w e) (ap (chunks (length ls) w) (drop_at l (flat ls ++ rest) w e) ∙ chunks-back w a rest)

-- ---- padding
-- no list is longer than the longest
pub longest : (ls : List (List ℕ)) → All (λ l. length l ≤ greatest (map length ls)) ls
longest ls = all-unmap length ls (greatest-all (map length ls))

-- a padded list is as long as the longest
padded-long : (a : ℕ) (l : List ℕ) → length l ≤ a → length (padded a l) ≡ a
padded-long a l h = let z : List ℕ = replicate (a - length l) 0 in let e : length z ≡ a - length l = length-replicate (a - length l) 0 in length-append l z ∙ (omega arith)

-- so is each
padded-even : (ls : List (List ℕ)) → All (λ l. length l ≡ greatest (map length ls)) (padded_all ls)
padded-even ls = let a = greatest (map length ls) in map-all (padded a) (all_map (padded-long a) (longest ls))

-- the entries without the padding
entries-back : (a : ℕ) (ls : List (List ℕ)) → entries (map length ls) (map (padded a) ls) ≡ ls
entries-back a [] = refl
entries-back a (l ∷ ls) = ap₂ ◌∷◌ (take_at l (replicate (a - length l) 0) (length l) refl) (entries-back a ls)

-- ---- good lists
-- entries between 1 and most, all different
pub record Entries (most : ℕ) (l : List ℕ) : Type 0 where
  pub range : all_pass (in_range most) l ≡ true
  pub differ : all_differ l ≡ true

-- zeros
zeros-pass : (c : ℕ) → all_pass (λ x. eqb x 0) (replicate c 0) ≡ true
zeros-pass zero = refl
zeros-pass (suc c) = zeros-pass c

-- a padded list passes
padded-good : (most a : ℕ) (l : List ℕ) → Entries most l → good_list most (length l) (padded a l) ≡ true
padded-good most a l e =
    let z : List ℕ = replicate (a - length l) 0 in
    let t : take (length l) (padded a l) ≡ l = take_at l z (length l) refl in
    let d : drop (length l) (padded a l) ≡ z = drop_at l z (length l) refl in
    and_both _ _ (ap (all_pass (in_range most)) t ∙ e.range)
    (and_both _ _ (ap all_differ t ∙ e.differ) (ap (all_pass (λ x. eqb x 0)) d ∙ zeros-pass (a - length l)))

-- so do all
padded-goods : (most a : ℕ) {ls : List (List ℕ)} → All (Entries most) ls → good_lists most (map length ls) (map (padded a) ls) ≡ true
padded-goods most a nil = refl
padded-goods most a (cons {x = l} {l = ls} e b) = and_both (good_list most (length l) (padded a l)) _ (padded-good most a l e) (padded-goods most a b)

-- ---- the parts of written lines
module _ (columns rows : List (List ℕ)) where
  -- how many columns and rows
  abbrev n : ℕ
  n = length columns

  abbrev m : ℕ
  m = length rows

  -- the greatest weights
  abbrev a : ℕ
  a = greatest (map length columns)

  abbrev b : ℕ
  b = greatest (map length rows)

  -- the lists behind the weights
  abbrev lists : List ℕ
  lists = flat (padded_all columns ++ padded_all rows)

  -- all numbers
  abbrev l : List ℕ
  l = flat (alist_lines n columns rows)

  -- the columns' weights, and what stands behind them
  column-weights : column_weights l ≡ map length columns
  column-weights = take_at (map length columns) (map length rows ++ lists) n (length-map columns length)

  behind : after_column_weights l ≡ map length rows ++ lists
  behind = drop_at (map length columns) (map length rows ++ lists) n (length-map columns length)

  -- the rows' weights
  row-weights : row_weights l ≡ map length rows
  row-weights = ap (take m) behind ∙ take_at (map length rows) lists m (length-map rows length)

  -- the lists, one after another
  lists-are : after_weights l ≡ flat (padded_all columns) ++ flat (padded_all rows)
  lists-are = ap (drop m) behind ∙ drop_at (map length rows) lists m (length-map rows length) ∙ flat_append (padded_all columns) (padded_all rows)

  -- the columns' lists
  column-lists : column_lists l ≡ padded_all columns
  column-lists = ap (chunks n a) lists-are ∙ ap (λ x. chunks x a (flat (padded_all columns) ++ flat (padded_all rows))) (sym (length-map columns (padded a)))
      ∙ chunks-back a (padded-even columns) (flat (padded_all rows))

  -- how long they are, and those of the rows
  columns-long : length (flat (padded_all columns)) ≡ n * a
  columns-long = flat-long a (padded-even columns) ∙ ap (λ x. x * a) (length-map columns (padded a))

  rows_long : length (flat (padded_all rows)) ≡ m * b
  rows_long = flat-long b (padded-even rows) ∙ ap (λ x. x * b) (length-map rows (padded b))

  -- the rows' lists
  rows_behind : after_columns l ≡ flat (padded_all rows) ++ []
  rows_behind = ap (drop (n * a)) lists-are ∙ drop_at (flat (padded_all columns)) (flat (padded_all rows)) (n * a) columns-long ∙ sym (append-nil (flat (padded_all rows)))

  row-lists : row_lists l ≡ padded_all rows
  row-lists = ap (chunks m b) rows_behind ∙ ap (λ x. chunks x b (flat (padded_all rows) ++ [])) (sym (length-map rows (padded b))) ∙ chunks-back b (padded-even rows) []

  -- how many numbers
  lines_long : length l ≡ 4 + n + m + n * a + m * b
  lines_long =
      let e1 = length-append (map length columns) (map length rows ++ lists) in
      let e2 = length-append (map length rows) lists in
      let e3 = ap length (flat_append (padded_all columns) (padded_all rows)) ∙ length-append (flat (padded_all columns)) (flat (padded_all rows)) in
      let e4 = columns-long in
      let e5 = rows_long in
      let e6 : length (map length columns) ≡ n = length-map columns length in
      let e7 : length (map length rows) ≡ m = length-map rows length in
      omega arith

  -- the entries come back
  pub column-entries : column_entries l ≡ columns
  column-entries = ap₂ entries column-weights column-lists ∙ entries-back a columns

  pub row-entries : row_entries l ≡ rows
  row-entries = ap₂ entries row-weights row-lists ∙ entries-back b rows

  -- lists of good entries are not refused with 12
  pub lines-good : All (Entries m) columns → All (Entries n) rows → is_alist l ≡ true
  lines-good p q =
      and_both (counted l) _ (eq-eqb (length l) (4 + n + m + n * a + m * b) lines_long)
      (and_both _ _ (and_both _ _ (ap (λ x. eqb (greatest x) a) column-weights ∙ eqb-self a) (ap (λ x. eqb (greatest x) b) row-weights ∙ eqb-self b))
      (and_both _ _ (ap₂ (good_lists m) column-weights column-lists ∙ padded-goods m a p) (ap₂ (good_lists n) row-weights row-lists ∙ padded-goods n b q)))
