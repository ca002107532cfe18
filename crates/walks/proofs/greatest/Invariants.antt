-- `greatest` meets its contract.
use mathlib.Core.Path.{◌≡◌}
use mathlib.Core.List.{List}
use Prim.Native.Nat.{ℕ, ◌≤◌}
use lib.ListN.{length, take, drop}
use Rattle.numbers.specs.Cursor.{Ahead}
use Rattle.alist.specs.Alist.{greatest}
use Rattle.walks.proofs.greatest.Given as goal

abbrev pub invariant-loop-i : goal.invariant-loop-i
invariant-loop-i l = ((xs : List ℕ) → Ahead l.text l.at xs → l.count ≤ length xs → Ahead l.text l.next (drop l.i xs) × (l.most ≡ greatest (take l.i xs)))
