-- The maker of staircase tables (document 02, C-11): source count k, packet count n, ones per source column, seed and packet size s, all
-- of any size, and a table buffer of any length and content. "The RFC decides the generator and the fill."
use Rattle.std.specs.Prelude.{Bool, true, false, ◌||◌, List, [], ◌∷◌, ℕ, ◌-◌, eqb, ltb, leb, length, take}
use Rattle.std.proofs.Math.Option.{Option, none, some}
use Rattle.table.specs.FirstCause.{first_cause, wrong_length}
use Rattle.table.specs.Table.{outside, beyond}
use Rattle.making.specs.Making.{table_words, too_heavy, MakeAnswer, make_answer_at, make_buffer_after}
use Rattle.making.specs.Written.{table_of}
use Rattle.fill.specs.Fill.{State, fill}
use Rattle.staircase.specs.Stairs.{checks_of}

-- ---- the limits
abbrev pub least_per_column : ℕ
least_per_column = 3

abbrev pub most_per_column : ℕ
most_per_column = 10

abbrev pub most_seed : ℕ
most_seed = 2147483646

abbrev pub most_draws : ℕ
most_draws = 65536

-- ---- the left side and the checks
-- the left side, if the draws are enough
abbrev pub left_side : ℕ → ℕ → ℕ → ℕ → Option State
left_side k n ones seed = fill k (n - k) ones seed most_draws

-- the checks of a left side
abbrev pub checks_made : ℕ → Option State → List (List ℕ)
checks_made k none = []
checks_made k (some f) = checks_of k f

abbrev pub staircase_checks : ℕ → ℕ → ℕ → ℕ → List (List ℕ)
staircase_checks k n ones seed = checks_made k (left_side k n ones seed)

-- ---- the causes
-- 11: "source count 0, packet count not above it, ones per column outside 3 to 10 or above the number of checks, seed outside 1 to
-- 2,147,483,646"
abbrev pub bad_parameters : ℕ → ℕ → ℕ → ℕ → Bool
bad_parameters k n ones seed = eqb k 0 || (leb n k || (ltb ones least_per_column || (ltb most_per_column ones || (ltb (n - k) ones || outside most_seed seed))))

-- 11: "or a fill that needs more than 65,536 draws"
abbrev pub draws_spent : Option State → Bool
draws_spent none = true
draws_spent (some f) = false

-- "Order: 11 but for the draws, 2, 5, the draws, 3."
abbrev pub staircase_causes : ℕ → ℕ → ℕ → ℕ → ℕ → ℕ → List (Bool × ℕ)
staircase_causes k n ones seed s buffer_length =
    (bad_parameters k n ones seed, 11) ∷ (beyond n s (n - k), 2) ∷ (wrong_length buffer_length table_words, 5)
    ∷ (draws_spent (left_side k n ones seed), 11) ∷ (too_heavy (staircase_checks k n ones seed), 3) ∷ []

unfoldable pub staircase_refusal_at : ℕ → ℕ → ℕ → ℕ → ℕ → ℕ → ℕ
staircase_refusal_at k n ones seed s buffer_length = first_cause (staircase_causes k n ones seed s buffer_length)

-- the numbers of the table
unfoldable pub staircase_table : ℕ → ℕ → ℕ → ℕ → ℕ → List ℕ
staircase_table k n ones seed s = table_of n s (staircase_checks k n ones seed)

-- ---- the call
module _ (k n ones seed s : ℕ) (buffer : List ℕ) where
  abbrev pub staircase_refusal : ℕ
  staircase_refusal = staircase_refusal_at k n ones seed s (length buffer)

  abbrev pub staircase_answer : MakeAnswer
  staircase_answer = make_answer_at staircase_refusal (staircase_table k n ones seed s)

  -- the table buffer afterwards
  abbrev pub staircase_table_after : List ℕ
  staircase_table_after = make_buffer_after staircase_refusal (staircase_table k n ones seed s) buffer

  -- the table to be lent on: as many numbers of the buffer as the answer says
  abbrev pub staircase_lent : List ℕ
  staircase_lent = take staircase_answer.length staircase_table_after
