-- The lists that are written: entries in range and different, columns and rows that agree, rows that sort back to the checks.
use Rattle.std.specs.Prelude.{◌≡◌, refl, true, ◌||◌, ◌&&◌, List, [], ◌∷◌, map, ℕ, suc, ◌<◌, ltb, leb, length, get_or}
use Rattle.std.proofs.Common.{sym, ap, ap₂, ◌∙◌, arith, le-leb, ltb-true}
use Rattle.std.proofs.Math.Dec.{eqb-suc-suc}
use Rattle.std.proofs.lemmas.List.{length-map}
use Rattle.std.proofs.Math.ListN.{get_or-map}
use Rattle.lists.specs.ListLaws.{all_map, all_of, filter_same, map-all}
use Rattle.lists.specs.Lists.{All, All.nil, All.cons, filter, from, has}
use Rattle.lists.specs.Numbers.{filter-has, from-length, map-from-at}
use Rattle.lists.specs.Tests.{and_l, and_r}
use Rattle.table.specs.Table.{rising}
use Rattle.making.specs.Sorted.{rising-filter, rising-not, sorted_back}
use Rattle.alist.specs.Alist.{sorted_row}
use Rattle.alist.specs.AlistText.{column_of, columns_of, rows_of}
use Rattle.alist.specs.Parts.{Entries}

-- ---- numbered from 1
-- a member by its number
has-suc : (p : ℕ) (l : List ℕ) → has (suc p) (map suc l) ≡ has p l
has-suc p [] = refl
has-suc p (q ∷ l) = ap₂ ◌||◌ (eqb-suc-suc p q) (has-suc p l)

-- ascending places have entries in range, all different
rising-entries : (k b : ℕ) (l : List ℕ) → rising k b l ≡ true → Entries k (map suc l)
rising-entries k b [] r = record { range = refl; differ = refl }
rising-entries k b (p ∷ l) r =
    let u = and_l (leb b p && ltb p k) (rising k (suc p) l) r in
    let v = and_r (leb b p && ltb p k) (rising k (suc p) l) r in
    let y = ltb-true p k (and_r (leb b p) (ltb p k) u) in
    let ih = rising-entries k (suc p) l v in
    record {
      range = rw (le-leb 1 (suc p) (omega arith), le-leb (suc p) k y) ih.range;
      differ = rw (has-suc p l ∙ rising-not k (suc p) p l (omega arith) v) ih.differ;
    }

-- ---- columns and rows
module _ (n : ℕ) (cs : List (List ℕ)) where
  -- as many columns as places, and rows as checks
  pub columns-count : length (columns_of n cs) ≡ n
  columns-count = length-map (from 0 n) (column_of cs) ∙ from-length 0 n

  pub rows-count : length (rows_of cs) ≡ length cs
  rows-count = length-map cs (map suc)

  -- a column's rows ascend
  pub column-rises : (c : ℕ) → rising (length cs) 0 (filter (λ r. has c (get_or cs r [])) (from 0 (length cs))) ≡ true
  column-rises c = rising-filter (λ r. has c (get_or cs r [])) (length cs) 0 (length cs) (omega arith)

  -- so their entries are good ..
  pub columns-good : All (Entries (length cs)) (columns_of n cs)
  columns-good = map-all (column_of cs) (all_of (λ c. rising-entries (length cs) 0 (filter (λ r. has c (get_or cs r [])) (from 0 (length cs))) (column-rises c)) (from 0 n))

  -- .. and the rows' if the checks ascend
  pub rows-good : All (λ c. rising n 0 c ≡ true) cs → All (Entries n) (rows_of cs)
  rows-good a = map-all (map suc) (all_map (rising-entries n 0) a)

  -- column c names row r just if row r names column c: if check r has place c
  pub lists_agree : (r c : ℕ) → r < length cs → c < n → has (suc r) (get_or (columns_of n cs) c []) ≡ has (suc c) (get_or (rows_of cs) r [])
  lists_agree r c h l =
      ap (has (suc r)) (map-from-at (column_of cs) [] n c l)
      ∙ has-suc r (filter (λ i. has c (get_or cs i [])) (from 0 (length cs))) ∙ filter-has (λ i. has c (get_or cs i [])) (length cs) r h
      ∙ sym (ap (has (suc c)) (get_or-map (map suc) cs r []) ∙ has-suc c (get_or cs r []))

-- the rows, sorted, are the checks
pub rows_back : (n : ℕ) {cs : List (List ℕ)} → All (λ c. rising n 0 c ≡ true) cs → map (sorted_row n) (rows_of cs) ≡ cs
rows_back n nil = refl
rows_back n (cons {x = c} r a) = ap₂ ◌∷◌
    (filter_same (λ p. has (suc p) (map suc c)) (λ p. has p c) (all_of (λ p. has-suc p c) (from 0 n)) ∙ sorted_back n c r)
    (rows_back n a)
