-- `all_zero` meets its contract.
use mathlib.Core.Path.{◌≡◌}
use mathlib.Core.Bool.{Bool, true}
use mathlib.Core.List.{List}
use Prim.Native.Nat.{ℕ, ◌≤◌}
use lib.Dec.{eqb}
use lib.ListN.{length, take, drop}
use Rattle.lists.specs.Lists.{all_pass}
use Rattle.numbers.specs.Cursor.{Ahead}
use Rattle.walks.proofs.all_zero.Given as goal

abbrev is_zero : ℕ → Bool
is_zero x = eqb x 0

abbrev pub invariant-loop-i : goal.invariant-loop-i
invariant-loop-i l = ((xs : List ℕ) → Ahead l.text l.at xs → l.count ≤ length xs → Ahead l.text l.next (drop l.i xs) × (all_pass is_zero (take l.i xs) ≡ true))
