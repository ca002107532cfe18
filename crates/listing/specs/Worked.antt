-- Worked examples: what planlist prints for table B is the paper's text; "info" alone; another size; odd and empty files.
use Rattle.std.specs.Prelude.{◌≡◌, refl, List, [], ◌∷◌, ◌++◌, ℕ, ◌/◌, ◌%◌}
use Prim.Native.String.{String}
use Rattle.table.specs.Table.{at_size}
use Rattle.planning.specs.Planning.{planning_refusal_at, plan_of_by}
use Rattle.numerals.specs.Numerals.{digits_within}
use Rattle.text.specs.Lines.{bytes}
use Rattle.listing.specs.Listing.{listing, table_text}

-- a table's file: "low byte first"
abbrev file_of : List ℕ → List ℕ
file_of [] = []
file_of (w ∷ ws) = w % 256 ∷ w / 256 ∷ file_of ws

-- lines, each with its end
abbrev text : List String → List ℕ
text [] = []
text (l ∷ ls) = bytes l ++ (bytes "\n" ++ text ls)

abbrev table_b : List ℕ
table_b = 2 ∷ 4 ∷ 1 ∷ 3 ∷ 3 ∷ 3 ∷ 3 ∷ 9 ∷ 0 ∷ 1 ∷ 2 ∷ 0 ∷ 1 ∷ 3 ∷ 0 ∷ 2 ∷ 3 ∷ []

-- P9: no information
abbrev table9 : List ℕ
table9 = 2 ∷ 1 ∷ 1 ∷ 1 ∷ 1 ∷ 1 ∷ 0 ∷ []

pub listing-of-B : listing (file_of table_b)
    ≡ text ("places 4 size 1 kept 3 ones 9 gap 1" ∷ "info 1" ∷ "clear 3" ∷ "add 1 3" ∷ "clear 2" ∷ "add 3 2" ∷ "clear 4" ∷ "add 1 4" ∷ "add 2 4"
    ∷ "clear 0" ∷ "add 4 0" ∷ "clear 3" ∷ "add 0 3" ∷ "add 1 3" ∷ "clear 2" ∷ "add 0 2" ∷ "add 3 2" ∷ "adds 9" ∷ [])
unfolding listing table_text planning_refusal_at plan_of_by digits_within
listing-of-B = refl

pub listing-of-P9 : listing (file_of table9) ≡ text ("places 1 size 1 kept 1 ones 1 gap 0" ∷ "info" ∷ "clear 0" ∷ "adds 0" ∷ [])
unfolding listing table_text planning_refusal_at plan_of_by digits_within
listing-of-P9 = refl

-- document 02, C-16: "Planlist prints the table's size as before"
pub listing-of-P9-at-1024 : listing (file_of (at_size 1024 table9)) ≡ text ("places 1 size 1024 kept 1 ones 1 gap 0" ∷ "info" ∷ "clear 0" ∷ "adds 0" ∷ [])
unfolding listing table_text planning_refusal_at plan_of_by digits_within
listing-of-P9-at-1024 = refl

pub listing-of-odd : listing (2 ∷ []) ≡ text ("refused 3" ∷ [])
unfolding listing digits_within
listing-of-odd = refl

pub listing-of-empty : listing [] ≡ text ("refused 1" ∷ [])
unfolding listing table_text planning_refusal_at plan_of_by digits_within
listing-of-empty = refl
