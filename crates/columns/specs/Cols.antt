-- Columns of the set-aside checks, one number a place.
use Rattle.std.specs.Prelude.{◌≡◌, List, ℕ, ◌<◌, ◌≤◌, length, get_or}
use Rattle.gf2.specs.Gf2.{column}
use Rattle.table.specs.Accepted.{Located}
use Rattle.table.specs.Table.{places}

-- col holds the columns of the rows E
pub record Columns (E col : List ℕ) : Type 0 where
  pub each : (p : ℕ) → get_or col p 0 ≡ column E p

-- k checks taken, by number, and their own places
pub record Taken (t : List ℕ) (m : ℕ) (starts order owns : List ℕ) (k : ℕ) : Type 0 where
  pub located : Located t m (places t) starts
  pub enough : (k ≤ length order) × (k ≤ length owns)
  pub checks : (i : ℕ) → i < k → get_or order i 0 < m
  pub own : (i : ℕ) → i < k → get_or owns i 0 < places t
