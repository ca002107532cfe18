-- The numbers of a text (document 02, C-15): "decimal numbers of at most six digits between blanks, 0a and 0d". How the text is cut into
-- lines plays no part.
use Rattle.std.specs.Prelude.{Bool, true, false, ◌||◌, ◌&&◌, List, [], ◌∷◌, ◌++◌, map, ℕ, eqb, leb, length}
use Rattle.std.proofs.Math.Option.{Option, none, some}
use Rattle.lists.specs.Lists.{all_pass}
use Rattle.numerals.specs.Numerals.{is_digit, value_after}

-- "at most six digits"
abbrev pub most_digits : ℕ
most_digits = 6

-- "blanks, 0a and 0d"
abbrev pub is_gap : ℕ → Bool
is_gap b = eqb b 32 || (eqb b 10 || eqb b 13)

-- the word w, where it ends; nothing if it has no byte
abbrev pub ended : List ℕ → List (List ℕ)
ended [] = []
ended (b ∷ w) = (b ∷ w) ∷ []

-- the words of a text that goes on after the bytes w of a word
abbrev pub words_after : List ℕ → List ℕ → List (List ℕ)
words_after w [] = ended w
words_after w (b ∷ text) = elim (is_gap b) [ true ↦ ended w ++ words_after [] text | false ↦ words_after (w ++ (b ∷ [])) text ]

-- what stands between blanks, 0a, 0d and the ends of the text
abbrev pub words_in : List ℕ → List (List ℕ)
words_in text = words_after [] text

-- a decimal number of at most six digits
abbrev pub is_short : List ℕ → Bool
is_short w = all_pass is_digit w && leb (length w) most_digits

-- the numbers of a text; none if it has anything else
unfoldable pub numbers_in : List ℕ → Option (List ℕ)
numbers_in text = elim (all_pass is_short (words_in text)) [ true ↦ some (map (value_after 0) (words_in text)) | false ↦ none ]
