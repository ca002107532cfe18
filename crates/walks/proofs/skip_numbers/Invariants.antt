-- `skip_numbers` meets its contract.
use mathlib.Core.List.{List}
use Prim.Native.Nat.{ℕ, ◌≤◌}
use lib.ListN.{length, drop}
use Rattle.numbers.specs.Cursor.{Ahead}
use Rattle.walks.proofs.skip_numbers.Given as goal

abbrev pub invariant-loop-i : goal.invariant-loop-i
invariant-loop-i l = ((xs : List ℕ) → Ahead l.text l.at xs → l.count ≤ length xs → Ahead l.text l.next (drop l.i xs))
