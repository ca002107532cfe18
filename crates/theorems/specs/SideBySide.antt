-- Copies of table B side by side (document 01, "Limits"; document 02, C-20: "20 copies of B taken, 21 refused").
use Rattle.std.specs.Prelude.{◌≡◌, refl, List, [], ◌++◌, map, ℕ, zero, suc, ◌+◌, ◌*◌}
use Rattle.table.specs.Table.{checks}
use Rattle.making.specs.Written.{table_of}
use Rattle.theorems.specs.Starred.{table_b}

-- the places of a check, each q higher
abbrev pub shifted : ℕ → List ℕ → List ℕ
shifted q c = map (λ p. q + p) c

-- k copies of B's checks, the first from place q on: a copy has four places
abbrev pub copies_from : ℕ → ℕ → List (List ℕ)
copies_from q zero = []
copies_from q (suc k) = map (shifted q) (checks table_b) ++ copies_from (q + 4) k

-- "copies of B side by side", with packets of one byte
abbrev pub copies_of_b : ℕ → List ℕ
copies_of_b k = table_of (4 * k) 1 (copies_from 0 k)

-- one copy is B
pub one-copy : copies_of_b 1 ≡ table_b
one-copy = refl
