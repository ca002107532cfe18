-- `least::solve_set` meets its contract: the bits below q are solved.
use Prim.Native.Nat.{ℕ}
use mathlib.Core.Path.{◌≡◌}
use Rattle.rows.specs.Leads.{leads}
use Rattle.least.specs.Solved.{in_set}
use Rattle.least.proofs.Solving.{up_to}
use Rattle.least.proofs.solve_set.Given as goal

abbrev pub invariant-loop-q : goal.invariant-loop-q
invariant-loop-q l = (j : ℕ) → in_set l.set j ≡ up_to (leads l.w l.owner) (in_set l.initial.set) l.q j
