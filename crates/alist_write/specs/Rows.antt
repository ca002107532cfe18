-- The text that rows of bits hold, and the answer where it is to be written.
use Rattle.std.specs.Prelude.{◌≡◌, List, [], ◌∷◌, ℕ, ltb, length}
use Rattle.table.specs.FirstCause.{first_cause}
use Rattle.bits.specs.Row.{rows_in}
use Rattle.making.specs.Making.{MakeAnswer, make_answer_at, make_buffer_after}
use Rattle.alist.specs.AlistText.{number_lines, rows_of, alist_lines}

-- the text of n columns and m rows
unfoldable pub bits_text : List ℕ → ℕ → List ℕ → ℕ → List ℕ
bits_text columns n rows m = number_lines (alist_lines n (rows_of (rows_in columns n)) (rows_of (rows_in rows m)))

-- 5 if the buffer is shorter than the text w, else 0
abbrev pub room_refusal : List ℕ → List ℕ → ℕ
room_refusal buffer w = first_cause ((ltb (length buffer) (length w), 5) ∷ [])

-- what is answered, and what the buffer holds afterwards, where w is to be written
pub record Answered (buffer w : List ℕ) (a : MakeAnswer) (e : List ℕ) : Type 0 where
  pub answer : a ≡ make_answer_at (room_refusal buffer w) w
  pub text : e ≡ make_buffer_after (room_refusal buffer w) w buffer
