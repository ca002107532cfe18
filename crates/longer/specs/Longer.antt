-- A longer table (document 02, C-22): "The new table has the old checks first, unchanged; any new checks and places come after."
use Rattle.std.specs.Prelude.{◌≡◌, Bool, true, false, ◌&&◌, List, [], ◌∷◌, ◌++◌, ℕ, ◌≤◌, eqb, leb}
use Rattle.lists.specs.Lists.{same_list}
use Rattle.table.specs.Table.{places, size, checks}

-- the checks cs are the first of ds
abbrev pub are_first : List (List ℕ) → List (List ℕ) → Bool
are_first [] ds = true
are_first (c ∷ cs) [] = false
are_first (c ∷ cs) (d ∷ ds) = same_list c d && are_first cs ds

-- the contrary of 15, "table isn't such a lengthening or changes s"
abbrev pub lengthens : List ℕ → List ℕ → Bool
lengthens old new = eqb (size old) (size new) && (leb (places old) (places new) && are_first (checks old) (checks new))

-- the same as facts
pub record Lengthens (old new : List ℕ) : Type 0 where
  pub same_size : size old ≡ size new
  pub more-places : places old ≤ places new
  pub later : List (List ℕ)
  pub old-first : checks new ≡ checks old ++ later
