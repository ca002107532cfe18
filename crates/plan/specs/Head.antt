-- What code asks before it writes a plan's first section: room, and counts within their limits.
use Rattle.std.specs.Prelude.{List, ℕ, ◌≤◌, length}
use Rattle.table.specs.Table.{most_places, most_checks}
use Rattle.plan.specs.Layout.{most_aside, info_count_at}

pub record HeadFits (w : List ℕ) (n g M : ℕ) : Type 0 where
  pub room : info_count_at ≤ length w
  pub few-places : n ≤ most_places
  pub few-aside : g ≤ most_aside
  pub few-kept : M ≤ most_checks
