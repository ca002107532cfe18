-- Step 1 of the rule on the numbers of the checks: which are kept.
use Rattle.std.specs.Prelude.{List, [], ℕ}
use Rattle.lists.specs.Lists.{from}
use Rattle.gf2.specs.Gf2.{is_zero, choose, xor_group, row_of}
use Rattle.table.specs.Checks.{check}

-- "Go through the checks in number order. Keep one unless it is the sum of some already kept"
unfoldable pub kept_of : List ℕ → ℕ → List ℕ
kept_of t m = choose xor_group is_zero (λ j. row_of (check t m j)) [] (from 0 m)
