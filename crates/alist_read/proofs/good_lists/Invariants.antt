-- `good_lists` meets its contract.
use mathlib.Core.Path.{◌≡◌}
use mathlib.Core.Bool.{true}
use mathlib.Core.List.{List}
use Prim.Native.Nat.{ℕ, ◌<◌}
use lib.ListN.{length, get_or, take, drop}
use Rattle.numbers.specs.Cursor.{Ahead}
use Rattle.alist.specs.Alist.{good_list}
use Rattle.walks.specs.Walks.{after, ListsAhead}
use Rattle.tiles.specs.Board.{Blank}
use Rattle.alist_read.proofs.good_lists.Given as goal

abbrev pub invariant-loop-i : goal.invariant-loop-i
invariant-loop-i l = (length l.board ≡ length l.initial.board)
    × (Blank l.initial.board → (ws xs : List ℕ) → ListsAhead l.text l.lists.weights l.lists.entries l.lists.count l.lists.width ws xs
    → Blank l.board × Ahead l.text l.weight (drop l.i ws) × Ahead l.text l.next (after l.i l.lists.width xs)
    × ((k : ℕ) → k < l.i → good_list l.most (get_or ws k 0) (take l.lists.width (after k l.lists.width xs)) ≡ true))
