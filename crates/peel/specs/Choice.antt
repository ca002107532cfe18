-- Steps 1 to 3 for a table: what the buffers hold, and how many.
use Rattle.std.specs.Prelude.{◌≡◌, List, ℕ, ◌+◌, length, get_or}
use Rattle.table.specs.Table.{checks, ones}
use Rattle.rule.specs.Buffers.{Chosen, peeling}
use Rattle.rule.specs.Rule.{kept, set_aside_of}

-- the weight of check j
unfoldable pub weight : List ℕ → ℕ → ℕ
weight t j = get_or t (4 + j) 0

-- M checks are kept with W ones; taken of them have an own place, and put are set aside
pub record ChoiceOf (t order owns aside : List ℕ) (M W taken put : ℕ) : Type 0 where
  pub chosen : Chosen t order owns aside taken put
  pub keeps : M ≡ length (kept (checks t))
  pub with-ones : W ≡ ones (kept (checks t))
  pub gap : put ≡ length (set_aside_of (peeling t))
  pub sum : taken + put ≡ M
