-- What the columns and the scan are made from: checks set aside, and what the phases before leave.
use Rattle.std.specs.Prelude.{List, ℕ, ◌<◌, ◌≤◌, length, get_or}
use Rattle.table.specs.Accepted.{Located}
use Rattle.table.specs.Table.{places}
use Rattle.rule.specs.Buffers.{Chosen, mask_width}

-- g checks set aside, by number
pub record Aside (t : List ℕ) (m : ℕ) (starts aside : List ℕ) (g : ℕ) : Type 0 where
  pub located : Located t m (places t) starts
  pub few : g ≤ mask_width
  pub room : g ≤ length aside
  pub numbers : (i : ℕ) → i < g → get_or aside i 0 < m

-- what the phases before leave of an accepted table: m checks, n places, g of the kept checks set aside
pub record Ready (t : List ℕ) (m n : ℕ) (starts order owns : List ℕ) (taken : ℕ) (aside : List ℕ) (g : ℕ) : Type 0 where
  pub located : Located t m n starts
  pub chosen : Chosen t order owns aside taken g
  pub few : g ≤ mask_width
