-- What the makers of tables share (document 02, C-11 and C-15): the table buffer, refusal 3 of checks, the answer.
use Rattle.std.specs.Prelude.{Bool, ◌||◌, List, ℕ, zero, suc, ltb, length}
use Rattle.lists.specs.Lists.{any_of, written}
use Rattle.table.specs.Table.{ones, most_weight, most_ones}
use Rattle.std.specs.declared.result.Result.{Result}
use Rattle.std.specs.declared.result.Result.TheVariants.{Ok, Err}
use Rattle.refusals.specs.declared.Refusal.{Refusal}
use Rattle.refusals.specs.Refusals.{number_of}

-- "The table buffer has exactly 6,661 numbers, else 5"
abbrev pub table_words : ℕ
table_words = 6661

-- 3: "a weight over 64, W0 over 6,144"
abbrev pub too_heavy : List (List ℕ) → Bool
too_heavy cs = any_of (λ c. ltb most_weight (length c)) cs || ltb most_ones (ones cs)

-- the refusal, 0 for none, and how many numbers the table has, or bytes the text; 0 on refusal
pub record MakeAnswer : Type 0 where
  pub refusal : ℕ
  pub length : ℕ

-- the answer of a call that refuses with r or makes the table, or the text, t
abbrev pub make_answer_at : ℕ → List ℕ → MakeAnswer
make_answer_at zero t = record { refusal = 0; length = length t }
make_answer_at (suc r) t = record { refusal = suc r; length = 0 }

-- "only the table's length is written": the buffer b after the call; on refusal as it was
abbrev pub make_buffer_after : ℕ → List ℕ → List ℕ → List ℕ
make_buffer_after zero t b = written b 0 t
make_buffer_after (suc r) t b = b

-- what the code answers
abbrev pub make_answer_of : Result ℕ Refusal → MakeAnswer
make_answer_of (Ok n) = record { refusal = 0; length = n }
make_answer_of (Err r) = record { refusal = number_of r; length = 0 }
