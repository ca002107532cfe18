-- What the two calls leave: where they refuse, where a table is written; and texts that are read alike.
use Rattle.std.specs.Prelude.{◌≡◌, refl, List, [], ◌∷◌, ◌≢◌, ℕ, ◌≤◌, ltb, length}
use Rattle.std.proofs.Common.{ap, ◌∙◌, le-ltb}
use Rattle.lists.specs.Lists.{written}
use Rattle.table.specs.FirstCause.{first_cause}
use Rattle.table.specs.FirstCauseLaws.{none_of, rest-decides}
use Rattle.table.specs.Table.{table_causes, refusal}
use Rattle.making.specs.Making.{make_answer_at, make_buffer_after}
use Rattle.making.specs.MakingLaws.{make-refused}
use Rattle.making.specs.Written.{table_of}
use Rattle.numbers.specs.Numbers.{words_in, numbers_in}
use Rattle.numbers.specs.Steps.{numbers_of}
use Rattle.alist.specs.Alist.{column_count, alist_checks, numbers_read, alist_read_causes_of}
use Rattle.alist.specs.Alist.{alist_read_refusal_at, alist_table, alist_read_refusal, alist_read_answer, alist_read_table_after}
use Rattle.alist.specs.AlistText.{alist_text, alist_write_refusal_at, alist_write_refusal, alist_write_answer, alist_write_text_after}

-- ---- refused
-- reading: length 0, and the table buffer as it was
pub read-refused : (text : List ℕ) (s : ℕ) (buffer : List ℕ) → alist_read_refusal text s buffer ≢ 0
    → (alist_read_answer text s buffer ≡ record { refusal = alist_read_refusal text s buffer; length = 0 }) × (alist_read_table_after text s buffer ≡ buffer)
read-refused text s buffer n = make-refused (alist_read_refusal text s buffer) (alist_table text s) buffer n

-- writing: length 0, and the text buffer as it was
pub write-refused : (t buffer : List ℕ) → alist_write_refusal t buffer ≢ 0
    → (alist_write_answer t buffer ≡ record { refusal = alist_write_refusal t buffer; length = 0 }) × (alist_write_text_after t buffer ≡ buffer)
write-refused t buffer n = make-refused (alist_write_refusal t buffer) (alist_text t) buffer n

-- ---- read and written
-- a text that isn't refused: the table stands in front of the buffer, and the rest is kept
pub read_made : (text : List ℕ) (s : ℕ) (buffer : List ℕ) → alist_read_refusal text s buffer ≡ 0
    → (alist_read_answer text s buffer ≡ record { refusal = 0; length = length (alist_table text s) }) × (alist_read_table_after text s buffer ≡ written buffer 0 (alist_table text s))
read_made text s buffer e = (ap (λ r. make_answer_at r (alist_table text s)) e, ap (λ r. make_buffer_after r (alist_table text s) buffer) e)

-- a table's text, likewise
pub record TextWritten (t buffer : List ℕ) : Type 0 where
  pub accepted : alist_write_refusal t buffer ≡ 0
  pub answer : alist_write_answer t buffer ≡ record { refusal = 0; length = length (alist_text t) }
  pub after : alist_write_text_after t buffer ≡ written buffer 0 (alist_text t)

-- an accepted table is written into every buffer that its text fits in
pub write-fits : (t buffer : List ℕ) → refusal t ≡ 0 → length (alist_text t) ≤ length buffer → TextWritten t buffer
unfolding alist_write_refusal_at
write-fits t buffer ok room =
    let e : alist_write_refusal t buffer ≡ 0 =
    rest-decides (none_of (table_causes t) refl ok) ((ltb (length buffer) (length (alist_text t)), 5) ∷ []) ∙ rw (le-ltb (length buffer) (length (alist_text t)) room) in
    record { accepted = e; answer = ap (λ r. make_answer_at r (alist_text t)) e; after = ap (λ r. make_buffer_after r (alist_text t) buffer) e }

-- ---- how a text is cut into lines plays no part
-- texts of the same words are answered alike, and leave the table buffer alike
pub same-words : (text other : List ℕ) (s : ℕ) (buffer : List ℕ) → words_in text ≡ words_in other
    → (alist_read_answer text s buffer ≡ alist_read_answer other s buffer) × (alist_read_table_after text s buffer ≡ alist_read_table_after other s buffer)
unfolding numbers_in alist_read_refusal_at alist_table
same-words text other s buffer e =
    let n : numbers_in text ≡ numbers_in other = ap numbers_of e in (
      ap (λ o. make_answer_at (first_cause (alist_read_causes_of o s (length buffer))) (table_of (column_count (numbers_read o)) s (alist_checks (numbers_read o)))) n,
      ap (λ o. make_buffer_after (first_cause (alist_read_causes_of o s (length buffer))) (table_of (column_count (numbers_read o)) s (alist_checks (numbers_read o))) buffer) n,
    )
