-- Lines of text, as bytes.
use Rattle.std.specs.Prelude.{◌≡◌, List, [], ◌∷◌, ◌++◌, ℕ, ◌+◌, ◌≤◌, length, take, drop}
use Prim.Native.Char.{code}
use Prim.Native.String.{String, [] as empty, ◌∷◌ as next}

-- ---- words
-- the characters' numbers
abbrev pub bytes : String → List ℕ
bytes empty = []
bytes (next c s) = code c ∷ bytes s

-- ---- lines
-- each word after a blank, and the line's end
abbrev pub words_after_blanks : List (List ℕ) → List ℕ
words_after_blanks [] = bytes "\n"
words_after_blanks (w ∷ ws) = bytes " " ++ (w ++ words_after_blanks ws)

-- a line by its first word and the others: "one blank between words"
abbrev pub line : String → List (List ℕ) → List ℕ
line first others = bytes first ++ words_after_blanks others

-- ---- buffers
-- the word stands in the text from at on; every other byte is kept
abbrev pub with_word : List ℕ → ℕ → List ℕ → List ℕ
with_word text at word = take at text ++ (word ++ drop (at + length word) text)

-- what writing a word from at on leaves, and where it ends (the last two follow, and serve whoever lends the first r bytes)
pub record Appended (text : List ℕ) (at : ℕ) (word text' : List ℕ) (r : ℕ) : Type 0 where
  pub is : text' ≡ with_word text at word
  pub ends : r ≡ at + length word
  pub within : r ≤ length text'
  pub counts : r ≡ length (take r text')
