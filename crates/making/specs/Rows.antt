-- The rows from one on: all, one and the others, none.
use Rattle.std.specs.Prelude.{◌≡◌, List, [], ◌∷◌, map, ℕ, ◌+◌, ◌-◌, ◌<◌, ◌≤◌}
use Rattle.std.proofs.Common.{ap, arith}
use Rattle.lists.specs.Lists.{from}
use Rattle.lists.specs.Numbers.{from_next, from-none}
use Rattle.bits.specs.Row.{row, places_in, rows_in}

-- the rows from i on of the first m
abbrev pub rows_from : List ℕ → ℕ → ℕ → List (List ℕ)
rows_from w m i = map (λ r. places_in (row w r)) (from i (m - i))

module _ (w : List ℕ) (m : ℕ) where
  pub rows_all : rows_in w m ≡ rows_from w m 0
  rows_all = let z : m ≡ m - 0 = omega arith in ap (λ c. map (λ r. places_in (row w r)) (from 0 c)) z

  pub rows_next : (i : ℕ) → i < m → rows_from w m i ≡ places_in (row w i) ∷ rows_from w m (i + 1)
  rows_next i h = ap (map (λ r. places_in (row w r))) (from_next m i h)

  pub rows_none : (i : ℕ) → m ≤ i → rows_from w m i ≡ []
  rows_none i h = ap (map (λ r. places_in (row w r))) (from-none i m h)
