-- `column` meets its contract: c ones are left.
use Prim.Native.Nat.{ℕ, ◌-◌, ◌<◌}
use mathlib.Core.Path.{◌≡◌}
use lib.ListN.{length}
use Rattle.fill.specs.Fill.{State, column}
use Rattle.fill.specs.Held.{Both}
use Rattle.fill.proofs.Going.{Rest}
use Rattle.fill.proofs.column.Given as goal

abbrev pub invariant-loop-i : goal.invariant-loop-i
invariant-loop-i l =
    (length l.w ≡ length l.initial.w) × (length l.u ≡ length l.initial.u)
    × ((k : ℕ) → l.j < k → (s : State) → Both k l.m l.e l.initial.w l.initial.u l.initial.used l.initial.draws.raw l.initial.draws.left s → Rest (Both k l.m l.e l.w l.u l.used l.draws.raw l.draws.left) (column l.e l.m l.j l.ones s) (column l.e l.m l.j (l.ones - l.i)))
