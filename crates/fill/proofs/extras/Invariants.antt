-- `extras` meets its contract: the rows from i on are left.
use Prim.Native.Nat.{ℕ, ◌-◌}
use mathlib.Core.Path.{◌≡◌}
use lib.ListN.{length}
use Rattle.fill.specs.Fill.{State, extras}
use Rattle.fill.specs.Held.{Rep}
use Rattle.fill.proofs.Going.{Rest}
use Rattle.fill.proofs.extras.Given as goal

abbrev pub invariant-loop-i : goal.invariant-loop-i
invariant-loop-i l =
    (length l.w ≡ length l.initial.w) × ((e : ℕ) (s : State) → Rep l.k l.m e l.initial.w l.initial.draws.raw l.initial.draws.left s → Rest (Rep l.k l.m e l.w l.draws.raw l.draws.left) (extras l.k 0 l.m s) (extras l.k l.i (l.m - l.i)))
