-- RFC 5170's checks: the source places of each row of the left side, and the staircase. The quoted words are those of docs/RFC5170.md.
use Rattle.std.specs.Prelude.{List, [], ◌∷◌, ◌++◌, map, ℕ, zero, suc, ◌+◌}
use Rattle.lists.specs.Lists.{has, filter, from}
use Rattle.fill.specs.Fill.{State}

-- "row i has a one at column k + i, and, for i above 0, at column k + i − 1"
abbrev pub stair : ℕ → ℕ → List ℕ
stair k zero = (k + 0) ∷ []
stair k (suc i) = (k + i) ∷ (k + suc i) ∷ []

-- the checks from number i on, each with its source places and its stair
abbrev pub stairs_from : ℕ → ℕ → List (List ℕ) → List (List ℕ)
stairs_from k i [] = []
stairs_from k i (l ∷ ls) = (l ++ stair k i) ∷ stairs_from k (suc i) ls

-- all checks: one for each row of the left side
abbrev pub staircase : ℕ → List (List ℕ) → List (List ℕ)
staircase k ls = stairs_from k 0 ls

-- the source places of a row, ascending
abbrev pub sources : ℕ → List ℕ → List ℕ
sources k row = filter (λ j. has j row) (from 0 k)

-- the checks of a filled left side
abbrev pub checks_of : ℕ → State → List (List ℕ)
checks_of k s = staircase k (map (sources k) s.rows)
