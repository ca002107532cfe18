-- `flip_list` meets its contract.
use mathlib.Core.Path.{◌≡◌}
use mathlib.Core.List.{List}
use Prim.Native.Nat.{ℕ, ◌≤◌}
use lib.ListN.{length, take, drop}
use Rattle.lists.specs.Lists.{par}
use Rattle.numbers.specs.Cursor.{Ahead}
use Rattle.tiles.specs.Board.{by_columns, Flips, in_column, turned}
use Rattle.tiles.proofs.flip_list.Given as goal

abbrev pub invariant-loop-i : goal.invariant-loop-i
invariant-loop-i l = (length l.board ≡ length l.initial.board)
    × ((xs : List ℕ) → Ahead l.text l.at xs → l.weight ≤ length xs → Ahead l.text l.next (drop l.i xs) × Flips l.initial.board (turned (by_columns l.axis) (in_column l.low l.span l.j (λ y. par y (take l.i xs)))) l.board)
