-- Reading an alist text (document 02, C-15): "a line each for sizes and greatest weights (columns first in both), column weights, row
-- weights, then a line for each list from columns and from rows, numbered from 1 and padded with 0 to the greatest weight". Columns are
-- places and rows are checks; "packet size is given beside the file".
use Rattle.std.specs.Prelude.{Bool, true, false, not, ◌&&◌, List, [], ◌∷◌, map, ℕ, zero, suc, ◌+◌, ◌*◌, max, eqb, leb, length, get_or, take, drop}
use Rattle.std.proofs.Math.Option.{Option, none, some}
use Rattle.lists.specs.Lists.{all_pass, any_of, all_differ, bxor, has, filter, from}
use Rattle.table.specs.FirstCause.{first_cause, wrong_length}
use Rattle.table.specs.Table.{beyond}
use Rattle.making.specs.Making.{table_words, too_heavy, MakeAnswer, make_answer_at, make_buffer_after}
use Rattle.making.specs.Written.{table_of}
use Rattle.numbers.specs.Numbers.{numbers_in}

-- ---- the parts of a text whose numbers are l
-- the sizes n and m
abbrev pub column_count : List ℕ → ℕ
column_count l = get_or l 0 0

abbrev pub row_count : List ℕ → ℕ
row_count l = get_or l 1 0

-- the greatest weights
abbrev pub column_most : List ℕ → ℕ
column_most l = get_or l 2 0

abbrev pub row_most : List ℕ → ℕ
row_most l = get_or l 3 0

-- what stands behind the sizes and greatest weights, behind the columns' weights, behind the rows' weights, and behind the columns' lists
abbrev pub after_sizes : List ℕ → List ℕ
after_sizes l = drop 4 l

abbrev pub after_column_weights : List ℕ → List ℕ
after_column_weights l = drop (column_count l) (after_sizes l)

abbrev pub after_weights : List ℕ → List ℕ
after_weights l = drop (row_count l) (after_column_weights l)

abbrev pub after_columns : List ℕ → List ℕ
after_columns l = drop (column_count l * column_most l) (after_weights l)

-- the weights
abbrev pub column_weights : List ℕ → List ℕ
column_weights l = take (column_count l) (after_sizes l)

abbrev pub row_weights : List ℕ → List ℕ
row_weights l = take (row_count l) (after_column_weights l)

-- c lists of w numbers each
abbrev pub chunks : ℕ → ℕ → List ℕ → List (List ℕ)
chunks zero w l = []
chunks (suc c) w l = take w l ∷ chunks c w (drop w l)

-- the lists, each as long as the greatest weight
abbrev pub column_lists : List ℕ → List (List ℕ)
column_lists l = chunks (column_count l) (column_most l) (after_weights l)

abbrev pub row_lists : List ℕ → List (List ℕ)
row_lists l = chunks (row_count l) (row_most l) (after_columns l)

-- the entries of lists by their weights: without the padding
abbrev pub entries : List ℕ → List (List ℕ) → List (List ℕ)
entries [] ls = []
entries (w ∷ ws) [] = []
entries (w ∷ ws) (l ∷ ls) = take w l ∷ entries ws ls

abbrev pub column_entries : List ℕ → List (List ℕ)
column_entries l = entries (column_weights l) (column_lists l)

abbrev pub row_entries : List ℕ → List (List ℕ)
row_entries l = entries (row_weights l) (row_lists l)

-- ---- 12
-- not "too few or too many numbers"
abbrev pub counted : List ℕ → Bool
counted l = eqb (length l) (4 + column_count l + row_count l + column_count l * column_most l + row_count l * row_most l)

-- the greatest of some numbers, 0 for none
abbrev pub greatest : List ℕ → ℕ
greatest [] = 0
greatest (x ∷ l) = max x (greatest l)

-- no "wrong greatest weight"
abbrev pub right_most : List ℕ → Bool
right_most l = eqb (greatest (column_weights l)) (column_most l) && eqb (greatest (row_weights l)) (row_most l)

-- an entry inside its range
abbrev pub in_range : ℕ → ℕ → Bool
in_range most x = leb 1 x && leb x most

-- a list of weight w: no "entry outside its range or repeated in its list", no "padding other than 0"
abbrev pub good_list : ℕ → ℕ → List ℕ → Bool
good_list most w l = all_pass (in_range most) (take w l) && (all_differ (take w l) && all_pass (λ x. eqb x 0) (drop w l))

-- so is every list
abbrev pub good_lists : ℕ → List ℕ → List (List ℕ) → Bool
good_lists most [] ls = true
good_lists most (w ∷ ws) [] = false
good_lists most (w ∷ ws) (l ∷ ls) = good_list most w l && good_lists most ws ls

abbrev pub is_alist : List ℕ → Bool
is_alist l = counted l && (right_most l && (good_lists (row_count l) (column_weights l) (column_lists l) && good_lists (column_count l) (row_weights l) (row_lists l)))

-- 12: "anything but decimal numbers of at most six digits between blanks, 0a and 0d", or numbers that aren't such a text's
abbrev pub malformed : Option (List ℕ) → Bool
malformed none = true
malformed (some l) = not (is_alist l)

-- ---- 13
-- of row r and column c, counted from 0, exactly one names the other, by its number from 1
abbrev pub one_sided : List (List ℕ) → List (List ℕ) → ℕ → ℕ → Bool
one_sided columns rows r c = bxor (has (suc r) (get_or columns c [])) (has (suc c) (get_or rows r []))

-- 13: "column and row lists disagree"
abbrev pub disagree : List ℕ → Bool
disagree l = any_of (λ r. any_of (one_sided (column_entries l) (row_entries l) r) (from 0 (column_count l))) (from 0 (row_count l))

-- ---- the table
-- the places of a row's list, counted from 0, ascending: "Lists may come unsorted"
abbrev pub sorted_row : ℕ → List ℕ → List ℕ
sorted_row n l = filter (λ p. has (suc p) l) (from 0 n)

-- the checks
abbrev pub alist_checks : List ℕ → List (List ℕ)
alist_checks l = map (sorted_row (column_count l)) (row_entries l)

-- ---- the call: a text, a packet size and a table buffer of any length and content
-- the numbers that were read
abbrev pub numbers_read : Option (List ℕ) → List ℕ
numbers_read none = []
numbers_read (some l) = l

-- 12, 13, "in that order, before document 01's refusals": 2, 3, and 5, "the table buffer is C-11's"
abbrev pub alist_read_causes_of : Option (List ℕ) → ℕ → ℕ → List (Bool × ℕ)
alist_read_causes_of o s buffer_length =
    (malformed o, 12) ∷ (disagree (numbers_read o), 13) ∷ (beyond (column_count (numbers_read o)) s (row_count (numbers_read o)), 2)
    ∷ (too_heavy (alist_checks (numbers_read o)), 3) ∷ (wrong_length buffer_length table_words, 5) ∷ []

abbrev pub alist_read_causes : List ℕ → ℕ → ℕ → List (Bool × ℕ)
alist_read_causes text s buffer_length = alist_read_causes_of (numbers_in text) s buffer_length

unfoldable pub alist_read_refusal_at : List ℕ → ℕ → ℕ → ℕ
alist_read_refusal_at text s buffer_length = first_cause (alist_read_causes text s buffer_length)

-- the numbers of the table, of a text that isn't refused
unfoldable pub alist_table : List ℕ → ℕ → List ℕ
alist_table text s = table_of (column_count (numbers_read (numbers_in text))) s (alist_checks (numbers_read (numbers_in text)))

module _ (text : List ℕ) (s : ℕ) (buffer : List ℕ) where
  abbrev pub alist_read_refusal : ℕ
  alist_read_refusal = alist_read_refusal_at text s (length buffer)

  abbrev pub alist_read_answer : MakeAnswer
  alist_read_answer = make_answer_at alist_read_refusal (alist_table text s)

  -- the table buffer afterwards
  abbrev pub alist_read_table_after : List ℕ
  alist_read_table_after = make_buffer_after alist_read_refusal (alist_table text s) buffer
