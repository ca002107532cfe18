-- `mark` meets its contract.
use mathlib.Core.Path.{◌≡◌}
use mathlib.Core.Bool.{true}
use mathlib.Core.List.{List}
use Prim.Native.Nat.{ℕ, ◌≤◌}
use lib.ListN.{length, take, drop}
use Rattle.lists.specs.Lists.{all_pass, all_differ}
use Rattle.numbers.specs.Cursor.{Ahead}
use Rattle.alist.specs.Alist.{in_range}
use Rattle.tiles.specs.Board.{Blank, Flips, named}
use Rattle.tiles.proofs.mark.Given as goal

abbrev pub invariant-loop-i : goal.invariant-loop-i
invariant-loop-i l = (length l.board ≡ length l.initial.board)
    × (Blank l.initial.board → (xs : List ℕ) → Ahead l.text l.at xs → l.count ≤ length xs
    → Ahead l.text l.next (drop l.i xs) × (all_pass (in_range l.most) (take l.i xs) ≡ true) × (all_differ (take l.i xs) ≡ true) × Flips l.initial.board (named (take l.i xs)) l.board)
