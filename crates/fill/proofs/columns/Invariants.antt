-- `columns` meets its contract: the columns from j on are left.
use Prim.Native.Nat.{◌-◌}
use mathlib.Core.Path.{◌≡◌}
use lib.ListN.{length}
use Rattle.fill.specs.Fill.{State, columns}
use Rattle.fill.specs.Held.{Both}
use Rattle.fill.proofs.Going.{Rest}
use Rattle.fill.proofs.columns.Given as goal

abbrev pub invariant-loop-j : goal.invariant-loop-j
invariant-loop-j l =
    (length l.w ≡ length l.initial.w) × (length l.u ≡ length l.initial.u)
    × ((s : State) → Both l.k l.m l.e l.initial.w l.initial.u l.initial.used l.initial.draws.raw l.initial.draws.left s → Rest (Both l.k l.m l.e l.w l.u l.used l.draws.raw l.draws.left) (columns l.e l.m l.ones 0 l.k s) (columns l.e l.m l.ones l.j (l.k - l.j)))
