-- The lines that rows of bits hold.
use Rattle.std.specs.Prelude.{List, [], ◌∷◌, ◌++◌, map, ℕ, length}
use Rattle.bits.specs.Row.{rows_in}
use Rattle.alist.specs.AlistText.{rows_of, padded}

-- the lists of the first count rows
abbrev pub padded_lists : List ℕ → ℕ → ℕ → List (List ℕ)
padded_lists w count most = map (padded most) (rows_of (rows_in w count))

-- the lines before the lists, with greatest weights a and b
abbrev pub head_lines : List ℕ → ℕ → ℕ → List ℕ → ℕ → ℕ → List (List ℕ)
head_lines columns n a rows m b = (n ∷ m ∷ []) ∷ (a ∷ b ∷ []) ∷ map length (rows_in columns n) ∷ map length (rows_in rows m) ∷ []

-- all lines
unfoldable pub lines : List ℕ → ℕ → ℕ → List ℕ → ℕ → ℕ → List (List ℕ)
lines columns n a rows m b = head_lines columns n a rows m b ++ (padded_lists columns n a ++ padded_lists rows m b)
