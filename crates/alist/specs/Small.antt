-- The lines of an accepted table: no list is longer than its limit, and no number is over 1,024.
use Rattle.std.specs.Prelude.{◌≡◌, Bool, List, [], map, ℕ, suc, ◌-◌, ◌<◌, ◌≤◌, length, get_or}
use Rattle.std.proofs.Common.{arith}
use Rattle.std.proofs.lemmas.List.{length-map}
use Rattle.lists.specs.ListLaws.{all_append, all_map, all_of, all_replicate, filter-less, map-all}
use Rattle.lists.specs.Lists.{All, All.nil, All.cons, filter, from, has}
use Rattle.lists.specs.Numbers.{from-length}
use Rattle.table.specs.Table.{places, checks, refusal, most_checks, most_weight}
use Rattle.table.specs.TableLaws.{accepted}
use Rattle.making.specs.Sorted.{rising-low}
use Rattle.alist.specs.Alist.{greatest}
use Rattle.alist.specs.AlistLaws.{greatest-most}
use Rattle.alist.specs.AlistText.{column_of, columns_of, rows_of, padded, padded_all, alist_lines}
use Rattle.alist.specs.Columns.{rows-count, column-rises}

-- a number of at most four digits
abbrev pub Small : ℕ → Type 0
Small x = x ≤ 1024

-- padded lists
padded-small : {ls : List (List ℕ)} → All (All Small) ls → All (All Small) (padded_all ls)
padded-small {ls} a = let most = greatest (map length ls) in
    map-all (padded most) (all_map (λ l h. all_append h (all_replicate {P = Small} (most - length l) 0 (omega arith))) a)

-- places below k, numbered from 1
suc-small : (k : ℕ) → k ≤ 1024 → {l : List ℕ} → All (λ p. p < k) l → All Small (map suc l)
suc-small k h a = map-all suc (all_map (λ p i. omega arith) a)

-- ---- a table's lists
abbrev pub columns_in : List ℕ → List (List ℕ)
columns_in t = columns_of (places t) (checks t)

abbrev pub rows_in : List ℕ → List (List ℕ)
rows_in t = rows_of (checks t)

module _ (t : List ℕ) (ok : refusal t ≡ 0) where
  -- no column is heavier than there are checks
  pub columns-light : All (λ c. length c ≤ most_checks) (columns_in t)
  columns-light = map-all (column_of (checks t)) (all_of light (from 0 (places t)))
    where
      light : (c : ℕ) → length (column_of (checks t) c) ≤ most_checks
      light c =
          let few = (accepted t ok).few-checks in
          let f : ℕ → Bool = λ r. has c (get_or (checks t) r []) in
          let e : length (column_of (checks t) c) ≡ length (filter f (from 0 (length (checks t)))) = length-map (filter f (from 0 (length (checks t)))) suc in
          let u = filter-less f (from 0 (length (checks t))) in
          let v = from-length 0 (length (checks t)) in
          omega arith

  -- no row than a check may be
  pub rows-light : All (λ r. length r ≤ most_weight) (rows_in t)
  rows-light = map-all (map suc) (all_map (λ c h. let e : length (map suc c) ≡ length c = length-map c suc in omega arith) (accepted t ok).light)

  -- the lists of the columns, and of the rows
  pub columns-small : All (All Small) (columns_in t)
  columns-small = let few = (accepted t ok).few-checks in
      map-all (column_of (checks t)) (all_of (λ c. suc-small (length (checks t)) (omega arith)
      (rising-low (length (checks t)) 0 (filter (λ r. has c (get_or (checks t) r [])) (from 0 (length (checks t)))) (column-rises (places t) (checks t) c))) (from 0 (places t)))

  pub rows-small : All (All Small) (rows_in t)
  rows-small = let g = accepted t ok in map-all (map suc) (all_map (λ c low. suc-small (places t) g.few-places low) g.low)

  -- all lines
  pub lines-small : All (All Small) (alist_lines (places t) (columns_in t) (rows_in t))
  lines-small =
      let g = accepted t ok in
      let e = rows-count (places t) (checks t) in
      let n : Small (places t) = g.few-places in
      let m : Small (length (rows_in t)) = omega (arith, g.few-checks) in
      let a : All Small (map length (columns_in t)) = map-all length (all_map (λ c h. omega arith) columns-light) in
      let b : All Small (map length (rows_in t)) = map-all length (all_map (λ c h. omega arith) rows-light) in
      cons (cons n (cons m nil)) (cons (cons (greatest-most 1024 a) (cons (greatest-most 1024 b) nil))
      (cons a (cons b (all_append (padded-small columns-small) (padded-small rows-small)))))
