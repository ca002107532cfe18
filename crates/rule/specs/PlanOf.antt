-- The rule's plan of a table, and its numbers by the plan's layout. The table's size plays no part.
use Rattle.std.specs.Prelude.{List, ◌++◌, ℕ, length, drop}
use Rattle.table.specs.Table.{places, checks}
use Rattle.plan.specs.Layout.{plan_numbers}
use Rattle.rule.specs.Rule.{Choice, most_freed, plan_by, Plan}

-- whatever the choice of checks to set aside
unfoldable pub plan_of_by : Choice → List ℕ → Plan
plan_of_by choice t = plan_by choice (places t) (checks t)

unfoldable pub numbers_by : Choice → List ℕ → List ℕ
numbers_by choice t = plan_numbers (places t) (plan_of_by choice t).g (plan_of_by choice t).M (plan_of_by choice t).info (plan_of_by choice t).steps

-- by the rule
abbrev pub plan_of : List ℕ → Plan
plan_of t = plan_of_by most_freed t

abbrev pub numbers_of : List ℕ → List ℕ
numbers_of t = numbers_by most_freed t

-- a buffer with the numbers at its start and the rest kept
abbrev pub with_numbers : List ℕ → List ℕ → List ℕ
with_numbers t buffer = numbers_of t ++ drop (length (numbers_of t)) buffer
