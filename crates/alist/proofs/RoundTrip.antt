-- "A table written out and read again is the same table": written-and-read by the definitions, calls-round by the two calls.
use Rattle.std.specs.Prelude.{◌≡◌, refl, true, false, List, [], ◌∷◌, map, ℕ, ltb, length, take}
use Rattle.std.proofs.Common.{sym, ◌∙◌, subst, arith}
use Rattle.std.proofs.Math.Path.{ap, ap₂}
use Rattle.std.proofs.Math.Option.{some}
use Rattle.lists.specs.ListLaws.{all_map, pass_all}
use Rattle.lists.specs.Lists.{All, any_of, from, written}
use Rattle.table.specs.ChecksLaws.{limits}
use Rattle.table.specs.FirstCauseLaws.{none-refuses}
use Rattle.table.specs.Table.{places, size, checks, rising, beyond, table_causes, refusal}
use Rattle.making.specs.AcceptedWritten.{accepted-written, within-limits, light-enough}
use Rattle.making.specs.Making.{table_words, too_heavy, make_answer_at, make_buffer_after}
use Rattle.making.specs.MakingLaws.{table-lent}
use Rattle.making.specs.Written.{flat, table_of}
use Rattle.numbers.specs.Numbers.{numbers_in}
use Rattle.alist.specs.Alist.{column_count, row_count, is_alist, one_sided, disagree, sorted_row, alist_checks, numbers_read}
use Rattle.alist.specs.Alist.{alist_table, alist_read_refusal, alist_read_answer, alist_read_table_after}
use Rattle.alist.proofs.Cases.{accepted-is-0}
use Rattle.alist.specs.AlistLaws.{agree-all}
use Rattle.alist.specs.AlistText.{alist_lines, alist_text, alist_write_refusal_at, alist_write_refusal, alist_write_answer, alist_write_text_after}
use Rattle.alist.specs.Columns.{columns-count, rows-count, columns-good, rows-good, lists_agree, rows_back}
use Rattle.alist.specs.Parts.{Entries, column-entries, row-entries, lines-good}
use Rattle.alist.specs.Small.{columns_in, rows_in, lines-small}
use Rattle.alist.specs.TextLaws.{text-read}

-- the text, read with packet size s into the buffer b, is the table t
pub record ReadsAs (t text : List ℕ) (s : ℕ) (b : List ℕ) : Type 0 where
  pub accepted : alist_read_refusal text s b ≡ 0
  pub table : alist_table text s ≡ t
  pub answer : alist_read_answer text s b ≡ record { refusal = 0; length = length t }
  pub after : alist_read_table_after text s b ≡ written b 0 t

module _ (t : List ℕ) (ok : refusal t ≡ 0) where
  abbrev cs : List (List ℕ)
  cs = checks t

  -- the numbers of its text
  abbrev l : List ℕ
  l = flat (alist_lines (length (columns_in t)) (columns_in t) (rows_in t))

  -- as many columns as places, and rows as checks
  n-is : length (columns_in t) ≡ places t
  n-is = columns-count (places t) cs

  m-is : length (rows_in t) ≡ length cs
  m-is = rows-count (places t) cs

  numbers-back : numbers_in (alist_text t) ≡ some l
  unfolding alist_text
  numbers-back = text-read (all_map (λ x a. all_map (λ y h. omega arith) a) (lines-small t ok)) ∙ ap (λ n. some (flat (alist_lines n (columns_in t) (rows_in t)))) (sym n-is)

  -- the places of each check ascend
  rises : All (λ c. rising (places t) 0 c ≡ true) cs
  rises = pass_all (rising (places t) 0) cs (limits t ok).rises

  -- the checks come back
  checks-are : alist_checks l ≡ cs
  checks-are = ap₂ (λ n x. map (sorted_row n) x) n-is (row-entries (columns_in t) (rows_in t)) ∙ rows_back (places t) rises

  -- columns and rows agree
  agreed : disagree l ≡ false
  agreed =
      ap₂ (λ x y. any_of (λ r. any_of (one_sided x y r) (from 0 (length (columns_in t)))) (from 0 (length (rows_in t))))
      (column-entries (columns_in t) (rows_in t)) (row-entries (columns_in t) (rows_in t))
      ∙ (agree-all (columns_in t) (rows_in t) (length (columns_in t)) (length (rows_in t))).1
      (λ r c h g. let n = n-is in let m = m-is in lists_agree (places t) cs r c (omega arith) (omega arith))

  -- no cause holds
  good : is_alist l ≡ true
  good = lines-good (columns_in t) (rows_in t)
      (subst (λ x. All (Entries x) (columns_in t)) (sym m-is) (columns-good (places t) cs))
      (subst (λ x. All (Entries x) (rows_in t)) (sym n-is) (rows-good (places t) cs rises))

  inside : beyond (column_count l) (size t) (row_count l) ≡ false
  inside = ap₂ (λ n m. beyond n (size t) m) n-is m-is ∙ within-limits t ok

  light : too_heavy (alist_checks l) ≡ false
  light = ap too_heavy checks-are ∙ light-enough t ok

  table-back : alist_table (alist_text t) (size t) ≡ t
  unfolding alist_table
  table-back = ap (λ o. table_of (column_count (numbers_read o)) (size t) (alist_checks (numbers_read o))) numbers-back
      ∙ ap₂ (λ n x. table_of n (size t) x) n-is checks-are ∙ accepted-written t ok

  -- for every table buffer of 6,661
  pub written-and-read : (b : List ℕ) → length b ≡ table_words → ReadsAs t (alist_text t) (size t) b
  written-and-read b long =
      let e = accepted-is-0 (alist_text t) (size t) b l numbers-back good agreed inside light long in
      record {
        accepted = e;
        table = table-back;
        answer = ap₂ make_answer_at e table-back;
        after = ap₂ (λ r x. make_buffer_after r x b) e table-back;
      }

-- what was written into any buffer, as many bytes as the answer says, read into any table buffer of 6,661
pub calls-round : (t buffer b : List ℕ) → alist_write_refusal t buffer ≡ 0 → length b ≡ table_words
    → ReadsAs t (take (alist_write_answer t buffer).length (alist_write_text_after t buffer)) (size t) b
unfolding alist_write_refusal_at
calls-round t buffer b e long =
    let text : take (alist_write_answer t buffer).length (alist_write_text_after t buffer) ≡ alist_text t =
    ap (λ r. take (make_answer_at r (alist_text t)).length (make_buffer_after r (alist_text t) buffer)) e ∙ table-lent (alist_text t) buffer in
    subst (λ x. ReadsAs t x (size t) b) (sym text) (written-and-read t (none-refuses (table_causes t) refl ((ltb (length buffer) (length (alist_text t)), 5) ∷ []) e).0 b long)
