-- What elimination with feeders comes to: owner has, for each place, the number of the row that leads it plus 1, 0 for none; row k of feed names
-- the rows that fed row k; ids has the numbers of the used checks, in the order of the rows.
use Rattle.std.specs.Prelude.{◌≡◌, List, ℕ, ◌+◌, ◌-◌, ◌<◌, ◌≤◌, length, get_or, take}
use Rattle.bits.specs.Row.{row}
use Rattle.gf2.specs.Gf2.{Bits}
use Rattle.lists.specs.Lists.{All}
use Rattle.reasons.specs.Mirror.{mirror_at, mirror_row}
use Rattle.reasons.specs.Noting.{Kept, noted}
use Rattle.reasons.specs.Used.{chosen}
use Rattle.rows.specs.Leads.{leads}
use Rattle.table.specs.Table.{checks}

-- the number of the row that leads place q
abbrev pub number_in : List ℕ → ℕ → ℕ
number_in owner q = get_or owner q 0 - 1

-- the rows that are added while x goes down
abbrev pub feeders : List ℕ → List ℕ → ℕ → ℕ → List ℕ
feeders w owner n x = noted n (leads w owner) (number_in owner) x

-- rows lead these places
pub record Led (owner ps : List ℕ) : Type 0 where
  pub each : All (λ q. (q < length owner) × (0 < get_or owner q 0) × (get_or owner q 0 ≤ 1024)) ps

-- all checks taken: k of them are used
pub record Taken (t : List ℕ) (n : ℕ) (lost w owner feed ids : List ℕ) (k : ℕ) : Type 0 where
  pub count : k ≡ length (chosen (mirror_row n lost) (checks t))
  pub used-are : take k ids ≡ chosen (mirror_row n lost) (checks t)
  pub few : k ≤ length (checks t)
  pub owned : (p : ℕ) → get_or owner p 0 ≤ k
  pub lead : (p : ℕ) → 0 < get_or owner p 0 → Bits (row w (get_or owner p 0 - 1)) (p + 1)
  pub kept : Kept n (mirror_at n lost (checks t)) (chosen (mirror_row n lost) (checks t)) (leads w owner) (row w) (row feed)
