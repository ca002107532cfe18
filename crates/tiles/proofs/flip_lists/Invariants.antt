-- `flip_lists` meets its contract.
use mathlib.Core.Path.{◌≡◌}
use mathlib.Core.List.{List}
use Prim.Native.Nat.{ℕ}
use lib.ListN.{length, drop}
use Rattle.numbers.specs.Cursor.{Ahead}
use Rattle.walks.specs.Walks.{after, list_at, ListsAhead}
use Rattle.tiles.specs.Board.{by_columns, Flips, in_columns, turned}
use Rattle.tiles.proofs.flip_lists.Given as goal

abbrev pub invariant-loop-j : goal.invariant-loop-j
invariant-loop-j l = (length l.board ≡ length l.initial.board)
    × ((ws xs : List ℕ) → ListsAhead l.text l.lists.weights l.lists.entries l.lists.count l.lists.width ws xs
    → Ahead l.text l.weight (drop l.j ws) × Ahead l.text l.next (after l.j l.lists.width xs) × Flips l.initial.board (turned (by_columns l.axis) (in_columns l.low l.span l.j (list_at l.lists.width ws xs))) l.board)
