-- Worked alist texts, both ways, and the refusals of reading and writing in their order, by computing.
use Rattle.std.specs.Prelude.{◌≡◌, refl, List, [], ◌∷◌, ◌++◌, map, ℕ, replicate}
use Prim.Native.Char.{code}
use Prim.Native.String.{String, [] as empty, ◌∷◌ as next}
use Rattle.lists.specs.Lists.{from}
use Rattle.numerals.specs.Numerals.{digits_within}
use Rattle.numbers.specs.Numbers.{numbers_in}
use Rattle.alist.specs.Alist.{alist_read_refusal_at, alist_table}
use Rattle.alist.specs.AlistText.{number_lines, columns_of, rows_of, alist_lines, alist_text, alist_write_refusal_at, alist_write_answer, alist_write_text_after}
use Rattle.theorems.specs.Starred.{table_a, table_b, table10}

-- the bytes of a text
abbrev bytes : String → List ℕ
bytes empty = []
bytes (next c s) = code c ∷ bytes s

-- ---- the texts of document 01's tables A and B (P10's, both ways: Starred)
abbrev text_a : List ℕ
text_a = bytes "7 3\n3 4\n1 1 2 1 2 2 3\n4 4 4\n1 0 0\n2 0 0\n1 2 0\n3 0 0\n1 3 0\n2 3 0\n1 2 3\n1 3 5 7\n2 3 6 7\n4 5 6 7\n"

abbrev text_b : List ℕ
text_b = bytes "4 3\n3 3\n3 2 2 2\n3 3 3\n1 2 3\n1 2 0\n1 3 0\n2 3 0\n1 2 3\n1 2 4\n1 3 4\n"

-- they are written so ..
pub texts-written : map alist_text (table_a ∷ table_b ∷ []) ≡ text_a ∷ text_b ∷ []
unfolding alist_text digits_within from
texts-written = refl

-- .. and read again; B's with lists that aren't sorted
pub tables-read : map (λ text. alist_table text 1) (text_a ∷ text_b ∷ bytes "4 3\n3 3\n3 2 2 2\n3 3 3\n3 1 2\n2 1 0\n1 3 0\n3 2 0\n3 2 1\n2 1 4\n1 4 3\n" ∷ [])
    ≡ table_a ∷ table_b ∷ table_b ∷ []
unfolding alist_table numbers_in from
tables-read = refl

-- ---- reading: refusals, each before those after it
abbrev reading : String → ℕ → ℕ → ℕ
reading text s buffer = alist_read_refusal_at (bytes text) s buffer

-- read: one check of two places; unsorted, without a line feed at the end; leading zeros, 0d, no lines at all, blanks in front
pub taken : reading "2 1\n1 2\n1 1\n2\n1\n1\n1 2\n" 1 6661 ∷ reading "2 1\n1 2\n1 1\n2\n1\n1\n2 1" 1 6661 ∷ reading "002 1 1 2 1 1 000002 1 1 1 2" 1 6661
    ∷ reading "  2 1\r\n1 2\r\n\r\n1 1\r\n2\r\n1\r\n1\r\n1 2\r\n" 1024 6661 ∷ [] ≡ 0 ∷ 0 ∷ 0 ∷ 0 ∷ []
unfolding alist_read_refusal_at numbers_in from
taken = refl

-- 12 before 2 and 5: no text; a tab; a sign; a letter; seven digits
pub bytes-first : reading "" 0 0 ∷ reading "2 1\n1 2\n1 1\n2\n1\n1\n1\t2\n" 0 0 ∷ reading "2 1\n1 2\n1 1\n2\n1\n1\n1 -2\n" 0 0 ∷ reading "2 1\n1 2\n1 1\n2\n1\n1\n1 2x\n" 0 0
    ∷ reading "0000002 1\n1 2\n1 1\n2\n1\n1\n1 2\n" 0 0 ∷ [] ≡ 12 ∷ 12 ∷ 12 ∷ 12 ∷ 12 ∷ []
unfolding alist_read_refusal_at numbers_in from
bytes-first = refl

-- every byte behind the last number: after a blank, 0a or 0d the text is read, after each other one it is 12
pub bytes-judged : map (λ b. alist_read_refusal_at (bytes "2 1\n1 2\n1 1\n2\n1\n1\n1 2" ++ (b ∷ [])) 1 6661) (from 0 256)
    ≡ replicate 10 12 ++ (0 ∷ 12 ∷ 12 ∷ 0 ∷ (replicate 18 12 ++ (0 ∷ replicate 223 12)))
unfolding alist_read_refusal_at numbers_in from
bytes-judged = refl

-- 12: too few numbers, by one and by all but one; too many; a greatest weight that is too great, of rows and of columns, or too small
pub counts-first : reading "2 1\n1 2\n1 1\n2\n1\n1\n1\n" 0 0 ∷ reading "2" 0 0 ∷ reading "2 1\n1 2\n1 1\n2\n1\n1\n1 2 0\n" 0 0
    ∷ reading "2 1\n1 3\n1 1\n2\n1\n1\n1 2 0\n" 0 0 ∷ reading "2 1\n2 2\n1 1\n2\n1 0\n1 0\n1 2\n" 0 0 ∷ reading "2 1\n1 1\n1 1\n2\n1\n1\n1\n" 0 0 ∷ []
    ≡ 12 ∷ 12 ∷ 12 ∷ 12 ∷ 12 ∷ 12 ∷ []
unfolding alist_read_refusal_at numbers_in from
counts-first = refl

-- 12 before 13: an entry 0 within the weight; out of range, of columns and of rows; repeated; padding other than 0
pub entries-first : reading "2 1\n1 2\n1 1\n2\n1\n0\n1 2\n" 0 0 ∷ reading "2 1\n1 2\n1 1\n2\n1\n2\n1 2\n" 0 0 ∷ reading "2 1\n1 2\n1 1\n2\n1\n1\n1 3\n" 0 0
    ∷ reading "2 1\n1 2\n1 1\n2\n1\n1\n1 1\n" 0 0 ∷ reading "2 1\n1 1\n1 0\n1\n1\n1\n1\n" 0 0 ∷ [] ≡ 12 ∷ 12 ∷ 12 ∷ 12 ∷ 12 ∷ []
unfolding alist_read_refusal_at numbers_in from
entries-first = refl

-- 13 before 2 and 5: a row names a column that doesn't name it, and the other way round
pub lists-next : reading "2 1\n1 1\n1 0\n1\n1\n0\n2\n" 0 0 ∷ reading "1 1\n1 0\n1\n0\n1\n" 0 0 ∷ [] ≡ 13 ∷ 13 ∷ []
unfolding alist_read_refusal_at numbers_in from
lists-next = refl

-- 2 before 5: no column; packets of 0 and of 1,025 bytes
pub limits-next : reading "0 0\n0 0\n\n\n" 1 0 ∷ reading "2 1\n1 2\n1 1\n2\n1\n1\n1 2\n" 0 0 ∷ reading "2 1\n1 2\n1 1\n2\n1\n1\n1 2\n" 1025 6661 ∷ [] ≡ 2 ∷ 2 ∷ 2 ∷ []
unfolding alist_read_refusal_at numbers_in from
limits-next = refl

-- the text of n columns and some checks
abbrev text_of : ℕ → List (List ℕ) → List ℕ
text_of n cs = number_lines (alist_lines n (columns_of n cs) (rows_of cs))

-- 3 behind 2 and before 5: a check of 65 places; one of 64 is taken, but for a buffer of 6,660 or 6,662 numbers: 5
pub weights-then-length : alist_read_refusal_at (text_of 65 (from 0 65 ∷ [])) 0 0 ∷ alist_read_refusal_at (text_of 65 (from 0 65 ∷ [])) 1 0
    ∷ alist_read_refusal_at (text_of 64 (from 0 64 ∷ [])) 1 6661 ∷ alist_read_refusal_at (text_of 64 (from 0 64 ∷ [])) 1 6660
    ∷ alist_read_refusal_at (text_of 64 (from 0 64 ∷ [])) 1 6662 ∷ [] ≡ 2 ∷ 3 ∷ 0 ∷ 5 ∷ 5 ∷ []
unfolding alist_read_refusal_at numbers_in digits_within from
weights-then-length = refl

-- 13 before 2 for every size: 1,025 columns, of which column 1 names the check and column 2 is named by it; 2 where they agree
pub sizes-later : alist_read_refusal_at (number_lines (alist_lines 1025 (columns_of 1025 ((0 ∷ []) ∷ [])) (rows_of ((1 ∷ []) ∷ [])))) 1 0
    ∷ alist_read_refusal_at (text_of 1025 ((0 ∷ []) ∷ [])) 1 0 ∷ [] ≡ 13 ∷ 2 ∷ []
unfolding alist_read_refusal_at numbers_in digits_within from
sizes-later = refl

-- ---- writing: 1 to 4 before 5, by four numbers, a first number 3, a number too many and a place at n; 5 by a byte too few
abbrev writing : List ℕ → ℕ → ℕ
writing t buffer = alist_write_refusal_at t buffer

pub written-refused : writing (2 ∷ 3 ∷ 1 ∷ 0 ∷ []) 0 ∷ writing (3 ∷ 3 ∷ 1 ∷ 0 ∷ 0 ∷ []) 0 ∷ writing (2 ∷ 3 ∷ 1 ∷ 0 ∷ 0 ∷ 0 ∷ []) 0 ∷ writing (2 ∷ 1 ∷ 1 ∷ 1 ∷ 1 ∷ 1 ∷ 1 ∷ []) 0
    ∷ writing table10 17 ∷ writing table10 18 ∷ writing table10 19 ∷ [] ≡ 1 ∷ 2 ∷ 3 ∷ 4 ∷ 5 ∷ 0 ∷ 0 ∷ []
unfolding alist_write_refusal_at alist_text digits_within from
written-refused = refl

-- a longer buffer keeps its rest, one that is too short all of it
pub rest-kept : alist_write_text_after table10 (replicate 20 9) ∷ alist_write_text_after table10 (replicate 17 9) ∷ []
    ≡ (bytes "3 0\n0 0\n0 0 0\n\n\n\n\n" ++ (9 ∷ 9 ∷ [])) ∷ replicate 17 9 ∷ []
unfolding alist_write_refusal_at alist_text digits_within from
rest-kept = refl

pub lengths-told : alist_write_answer table10 (replicate 20 9) ∷ alist_write_answer table10 (replicate 17 9) ∷ []
    ≡ record { refusal = 0; length = 18 } ∷ record { refusal = 5; length = 0 } ∷ []
unfolding alist_write_refusal_at alist_text digits_within from
lengths-told = refl
