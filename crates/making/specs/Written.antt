-- The numbers of a table that is written from its checks (document 01, "The table of checks").
use Rattle.std.specs.Prelude.{List, [], ◌∷◌, ◌++◌, map, ℕ, length}
use Rattle.table.specs.Table.{ones}

-- the places of all checks, one after another
abbrev pub flat : List (List ℕ) → List ℕ
flat [] = []
flat (c ∷ cs) = c ++ flat cs

-- the weights, their sum and the places: what stands behind the number of checks
abbrev pub tail : List (List ℕ) → List ℕ
tail cs = map length cs ++ (ones cs ∷ flat cs)

-- 2, n, s; m and m weights; W0 and W0 places
abbrev pub table_of : ℕ → ℕ → List (List ℕ) → List ℕ
table_of n s cs = 2 ∷ n ∷ s ∷ length cs ∷ tail cs
