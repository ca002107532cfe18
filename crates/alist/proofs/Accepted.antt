-- read-accepted: what is read is a table that is accepted, and its checks are the text's lists, as sets.
use Rattle.std.specs.Prelude.{◌≡◌, refl, true, false, List, [], ◌∷◌, map, ℕ, suc, ◌+◌, ◌<◌, ◌≤◌, ltb, leb, length, get_or, take}
use Rattle.std.proofs.Common.{sym, ap, ◌∙◌, subst, arith, leb-true, ltb-true, ltb-false}
use Rattle.std.proofs.lemmas.Bool.{false≢true}
use Rattle.std.proofs.Math.Option.{Option, none, some}
use Rattle.std.proofs.lemmas.List.{length-map}
use Rattle.lists.specs.ListLaws.{all-at, all_filter, all_map, all_of, has-low, map-all, map_at, pass_all}
use Rattle.lists.specs.Lists.{All, All.nil, All.cons, all_pass, has}
use Rattle.lists.specs.Numbers.{filter-has, from_all}
use Rattle.lists.specs.Tests.{and_l, and_r, by_bool}
use Rattle.table.specs.Table.{places, size, checks, rising, beyond, refusal}
use Rattle.making.specs.FitsLaws.{fits-from}
use Rattle.making.specs.Making.{too_heavy}
use Rattle.making.specs.ReadBack.{checks-back}
use Rattle.making.specs.Sorted.{rising-filter}
use Rattle.making.specs.WrittenAccepted.{written-accepted}
use Rattle.making.specs.Written.{table_of}
use Rattle.numbers.specs.Numbers.{numbers_in}
use Rattle.alist.specs.Alist.{column_count, row_count, column_weights, row_weights, column_lists, row_lists, column_entries, row_entries, entries}
use Rattle.alist.specs.Alist.{counted, right_most, in_range, good_list, good_lists, is_alist, malformed, disagree, sorted_row}
use Rattle.alist.specs.Alist.{alist_checks, numbers_read, alist_read_refusal, alist_table}
use Rattle.alist.specs.AlistLaws.{agree-all, rows-counted}
use Rattle.alist.proofs.Cases.{malformed-is-12, not-alist-is-12, disagreeing-is-13, beyond-is-2, heavy-is-3}

-- ---- the statement
-- the text holds numbers, and t is an accepted table of as many places as they say columns, of packet size s, whose check r has place p
-- just if row r's list names column p + 1, and just if column p's list names row r + 1
pub record FromText (text : List ℕ) (s : ℕ) (t : List ℕ) : Type 0 where
  pub numbers : List ℕ
  pub numbers-are : numbers_in text ≡ some numbers
  pub accepted : refusal t ≡ 0
  pub places-are : places t ≡ column_count numbers
  pub size_is : size t ≡ s
  pub checks-are : checks t ≡ alist_checks numbers
  pub check-count : length (checks t) ≡ row_count numbers
  pub by_rows : (r p : ℕ) → r < row_count numbers → has p (get_or (checks t) r []) ≡ has (suc p) (get_or (row_entries numbers) r [])
  pub by-columns : (r p : ℕ) → r < row_count numbers → p < column_count numbers
      → has p (get_or (checks t) r []) ≡ has (suc r) (get_or (column_entries numbers) p [])

-- ---- lists and rows
-- no entry of a good list lies above its range
low-entries : (most : ℕ) (ws : List ℕ) (ls : List (List ℕ)) → good_lists most ws ls ≡ true → All (All (λ x. x ≤ most)) (entries ws ls)
low-entries most [] ls h = nil
low-entries most (w ∷ ws) [] h = absurd (false≢true h)
low-entries most (w ∷ ws) (l ∷ ls) h = cons
    (all_map (λ x e. leb-true x most (and_r (leb 1 x) (leb x most) e))
    (pass_all (in_range most) (take w l) (and_l (all_pass (in_range most) (take w l)) _ (and_l (good_list most w l) _ h))))
    (low-entries most ws ls (and_r (good_list most w l) _ h))

-- sorted rows ascend
rows-rise : (n : ℕ) (rows : List (List ℕ)) → All (λ c. rising n 0 c ≡ true) (map (sorted_row n) rows)
rows-rise n rows = map-all (sorted_row n) (all_of (λ l. rising-filter (λ p. has (suc p) l) n 0 n (omega arith)) rows)

-- a sorted row has the places that its list names
sorted-has : (n p : ℕ) {l : List ℕ} → All (λ x. x ≤ n) l → has p (sorted_row n l) ≡ has (suc p) l
sorted-has n p {l} low = by_bool (ltb p n)
    (λ e. filter-has (λ x. has (suc x) l) n p (ltb-true p n e))
    (λ e. let h = ltb-false p n e in
    has-low p n h (all_filter (λ x. has (suc x) l) (all_map (λ q i. let u = i.1 in below q u) (from_all 0 n)))
    ∙ sym (has-low (suc p) (suc n) (omega arith) (all_map (λ x i. omega arith) low)))
  where
    below : (q : ℕ) → q < 0 + n → q < n
    below q u = omega arith

-- ---- a text whose numbers are l, where no cause holds
module _ (l : List ℕ) (s : ℕ) (fine : is_alist l ≡ true) (agrees : disagree l ≡ false) (inside : beyond (column_count l) s (row_count l) ≡ false)
    (light : too_heavy (alist_checks l) ≡ false) where
  abbrev n : ℕ
  n = column_count l

  abbrev t : List ℕ
  t = table_of n s (alist_checks l)

  rows_are : length (row_entries l) ≡ row_count l
  rows_are = rows-counted l (and_l (counted l) _ fine)

  count-is : length (alist_checks l) ≡ row_count l
  count-is = length-map (row_entries l) (sorted_row n) ∙ rows_are

  low : All (All (λ x. x ≤ n)) (row_entries l)
  low = low-entries n (row_weights l) (row_lists l) (and_r (good_lists (row_count l) (column_weights l) (column_lists l)) _ (and_r (right_most l) _ (and_r (counted l) _ fine)))

  row_has : (r p : ℕ) → r < row_count l → has p (get_or (checks t) r []) ≡ has (suc p) (get_or (row_entries l) r [])
  row_has r p h =
      let i : r < length (row_entries l) = subst (λ x. r < x) (sym rows_are) h in
      ap (λ cs. has p (get_or cs r [])) (checks-back n s (alist_checks l)) ∙ ap (has p) (map_at (sorted_row n) (row_entries l) r [] [] i)
      ∙ sorted-has n p (all-at [] low r i)

  read_of : (text : List ℕ) → numbers_in text ≡ some l → FromText text s t
  read_of text e = record {
    numbers = l;
    numbers-are = e;
    accepted = written-accepted n s (alist_checks l) (fits-from n s (alist_checks l) (subst (λ m. beyond n s m ≡ false) (sym count-is) inside) light (rows-rise n (row_entries l)));
    places-are = refl;
    size_is = refl;
    checks-are = checks-back n s (alist_checks l);
    check-count = ap length (checks-back n s (alist_checks l)) ∙ count-is;
    by_rows = row_has;
    by-columns = λ r p h i. row_has r p h ∙ sym ((agree-all (column_entries l) (row_entries l) n (row_count l)).0 agrees r p h i);
  }

-- ---- what is read
pub read-accepted : (text : List ℕ) (s : ℕ) (buffer : List ℕ) → alist_read_refusal text s buffer ≡ 0 → FromText text s (alist_table text s)
unfolding alist_table
read-accepted text s buffer e = by (numbers_in text) refl
  where
    -- another number isn't 0
    no : {P : Type 0} {k : ℕ} → alist_read_refusal text s buffer ≡ suc k → P
    no h = absurd (let z = sym h ∙ e in omega arith)

    by : (o : Option (List ℕ)) → numbers_in text ≡ o → FromText text s (table_of (column_count (numbers_read o)) s (alist_checks (numbers_read o)))
    by none q = no (malformed-is-12 text s buffer (ap malformed q))
    by (some l) q = by_bool (is_alist l)
        (λ fine. by_bool (disagree l)
        (λ f. no (disagreeing-is-13 text s buffer l q fine f))
        (λ agrees. by_bool (beyond (column_count l) s (row_count l))
        (λ f. no (beyond-is-2 text s buffer l q fine agrees f))
        (λ inside. by_bool (too_heavy (alist_checks l))
        (λ f. no (heavy-is-3 text s buffer l q fine agrees inside f))
        (λ light. read_of l s fine agrees inside light text q))))
        (λ f. no (not-alist-is-12 text s buffer l q f))
