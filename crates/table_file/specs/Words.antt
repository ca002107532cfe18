-- The words of a table's file (document 01, "The table of checks" and "Program planlist").
use Rattle.std.specs.Prelude.{Bool, true, false, not, ◌||◌, List, [], ◌∷◌, ◌++◌, ℕ, ◌+◌, ◌*◌, ◌/◌, ◌%◌, eqb, ltb, length, drop}
use Rattle.std.specs.declared.option.Option.{Option}
use Rattle.std.specs.declared.option.Option.TheVariants.{Some, None}

-- 16-bit words, "low byte first"
abbrev pub words_of : List ℕ → List ℕ
words_of [] = []
words_of (low ∷ []) = []
words_of (low ∷ (high ∷ rest)) = (low + high * 256) ∷ words_of rest

-- the most bytes of a table's file: 5 + 512 + 6,144 words
abbrev pub most_file : ℕ
most_file = 13322

-- "A file of an odd number of bytes, or of more than 13,322"
abbrev pub unfit : List ℕ → Bool
unfit file = not (eqb (length file % 2) 0) || ltb most_file (length file)

-- it is refused; of any other, the words are taken
unfoldable pub words_read : List ℕ → Option ℕ
words_read file = elim (unfit file) [ true ↦ None | false ↦ Some (length (words_of file)) ]

-- they stand at the start of the buffer; the rest is kept
unfoldable pub words_after : List ℕ → List ℕ → List ℕ
words_after file words = elim (unfit file) [ true ↦ words | false ↦ words_of file ++ drop (length (words_of file)) words ]

-- the bytes of words, "low byte first"
abbrev pub bytes_of : List ℕ → List ℕ
bytes_of [] = []
bytes_of (word ∷ rest) = (word % 256) ∷ (word / 256) ∷ bytes_of rest
