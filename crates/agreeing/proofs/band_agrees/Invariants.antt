-- `band_agrees` meets its contract.
use mathlib.Core.Path.{◌≡◌}
use mathlib.Core.List.{List}
use Prim.Native.Nat.{ℕ, ◌-◌, ◌≤◌}
use lib.ListN.{length, drop}
use Rattle.numbers.specs.Cursor.{Ahead}
use Rattle.walks.specs.Walks.{after, list_at, ListsAhead}
use Rattle.tiles.specs.Board.{Blank, BandAgrees}
use Rattle.agreeing.proofs.band_agrees.Given as goal

abbrev pub invariant-loop-c : goal.invariant-loop-c
invariant-loop-c l = (l.c ≤ l.columns.count) × (length l.board ≡ length l.initial.board) × (Blank l.initial.board → Blank l.board)
    × (Blank l.initial.board → (ws xs vs q : List ℕ) → ListsAhead l.text l.columns.weights l.columns.entries l.columns.count l.columns.width ws xs → ListsAhead l.text l.rows.weights l.rows.entries l.rows.count l.rows.width vs q
    → Ahead l.text l.weight (drop l.c ws) × Ahead l.text l.next (after l.c l.columns.width xs) × BandAgrees l.c l.r l.rows.count (list_at l.columns.width ws xs) (list_at l.rows.width vs q))

abbrev pub decreases-loop-c : goal.decreases-loop-c
decreases-loop-c l = l.columns.count - l.c
