-- `unmark` meets its contract.
use mathlib.Core.Path.{◌≡◌}
use mathlib.Core.List.{List}
use Prim.Native.Nat.{ℕ, ◌≤◌}
use lib.ListN.{length, take, drop}
use Rattle.numbers.specs.Cursor.{Ahead}
use Rattle.tiles.specs.Board.{Flips, named}
use Rattle.tiles.proofs.unmark.Given as goal

abbrev pub invariant-loop-i : goal.invariant-loop-i
invariant-loop-i l = (length l.board ≡ length l.initial.board)
    × ((xs : List ℕ) → Ahead l.text l.at xs → l.count ≤ length xs → Ahead l.text l.next (drop l.i xs) × Flips l.initial.board (named (take l.i xs)) l.board)
