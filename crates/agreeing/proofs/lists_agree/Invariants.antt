-- `lists_agree` meets its contract.
use mathlib.Core.Path.{◌≡◌}
use mathlib.Core.List.{List}
use Prim.Native.Nat.{ℕ, ◌-◌, ◌≤◌}
use lib.ListN.{length, drop}
use Rattle.numbers.specs.Cursor.{Ahead}
use Rattle.walks.specs.Walks.{after, list_at, ListsAhead}
use Rattle.tiles.specs.Board.{Blank, BandAgrees}
use Rattle.agreeing.proofs.lists_agree.Given as goal

abbrev pub invariant-loop-r : goal.invariant-loop-r
invariant-loop-r l = (l.r ≤ l.rows.count) × (length l.board ≡ length l.initial.board)
    × (Blank l.initial.board → (ws xs vs q : List ℕ) → ListsAhead l.text l.columns.weights l.columns.entries l.columns.count l.columns.width ws xs → ListsAhead l.text l.rows.weights l.rows.entries l.rows.count l.rows.width vs q
    → Blank l.board × Ahead l.text l.weight (drop l.r vs) × Ahead l.text l.next (after l.r l.rows.width q) × BandAgrees l.columns.count 0 l.r (list_at l.columns.width ws xs) (list_at l.rows.width vs q))

abbrev pub decreases-loop-r : goal.decreases-loop-r
decreases-loop-r l = l.rows.count - l.r
