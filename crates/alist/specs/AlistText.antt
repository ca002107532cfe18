-- Writing a table as alist text (document 02, C-15): "the writer sorts them, with one blank between numbers and a line feed (0a) after
-- each line".
use Rattle.std.specs.Prelude.{Bool, List, [], ◌∷◌, ◌++◌, map, ℕ, suc, ◌-◌, ltb, length, get_or, replicate}
use Rattle.lists.specs.Lists.{has, filter, from}
use Rattle.table.specs.FirstCause.{first_cause}
use Rattle.table.specs.Table.{places, checks, table_causes}
use Rattle.making.specs.Making.{MakeAnswer, make_answer_at, make_buffer_after}
use Rattle.numerals.specs.Numerals.{decimal}
use Rattle.alist.specs.Alist.{greatest}

-- ---- lines
-- a line of numbers
abbrev pub number_line : List ℕ → List ℕ
number_line [] = 10 ∷ []
number_line (x ∷ []) = decimal x ++ (10 ∷ [])
number_line (x ∷ y ∷ l) = decimal x ++ (32 ∷ number_line (y ∷ l))

-- lines, one after another
abbrev pub number_lines : List (List ℕ) → List ℕ
number_lines [] = []
number_lines (l ∷ ls) = number_line l ++ number_lines ls

-- ---- a table's lines
-- the checks that have place c, ascending, numbered from 1
abbrev pub column_of : List (List ℕ) → ℕ → List ℕ
column_of cs c = map suc (filter (λ r. has c (get_or cs r [])) (from 0 (length cs)))

-- the lists of the columns, and of the rows
abbrev pub columns_of : ℕ → List (List ℕ) → List (List ℕ)
columns_of n cs = map (column_of cs) (from 0 n)

abbrev pub rows_of : List (List ℕ) → List (List ℕ)
rows_of cs = map (map suc) cs

-- "padded with 0 to the greatest weight"
abbrev pub padded : ℕ → List ℕ → List ℕ
padded most l = l ++ replicate (most - length l) 0

abbrev pub padded_all : List (List ℕ) → List (List ℕ)
padded_all ls = map (padded (greatest (map length ls))) ls

-- the lines of n columns and of rows: sizes, greatest weights, weights, lists
abbrev pub alist_lines : ℕ → List (List ℕ) → List (List ℕ) → List (List ℕ)
alist_lines n columns rows =
    (n ∷ length rows ∷ []) ∷ (greatest (map length columns) ∷ greatest (map length rows) ∷ [])
    ∷ map length columns ∷ map length rows ∷ (padded_all columns ++ padded_all rows)

-- a table's text
unfoldable pub alist_text : List ℕ → List ℕ
alist_text t = number_lines (alist_lines (places t) (columns_of (places t) (checks t)) (rows_of (checks t)))

-- ---- the call: table t and a text buffer of any length and content
-- 1 to 4; "a text buffer shorter than the text to write is 5"
abbrev pub alist_write_causes : List ℕ → ℕ → List (Bool × ℕ)
alist_write_causes t buffer_length = table_causes t ++ ((ltb buffer_length (length (alist_text t)), 5) ∷ [])

unfoldable pub alist_write_refusal_at : List ℕ → ℕ → ℕ
alist_write_refusal_at t buffer_length = first_cause (alist_write_causes t buffer_length)

module _ (t buffer : List ℕ) where
  abbrev pub alist_write_refusal : ℕ
  alist_write_refusal = alist_write_refusal_at t (length buffer)

  abbrev pub alist_write_answer : MakeAnswer
  alist_write_answer = make_answer_at alist_write_refusal (alist_text t)

  -- the text buffer afterwards
  abbrev pub alist_write_text_after : List ℕ
  alist_write_text_after = make_buffer_after alist_write_refusal (alist_text t) buffer
