-- `marks::tally_of` meets its contract: so many of the bytes before.
use Rattle.erasure.specs.Restoring.{tally}
use Prim.Native.Nat.{◌+◌, ◌≤◌}
use mathlib.Core.Path.{◌≡◌}
use lib.ListN.{drop}
use Rattle.marks.proofs.tally_of.Given as goal

abbrev pub invariant-loop-b : goal.invariant-loop-b
invariant-loop-b l = (l.k ≤ l.b-index) × (tally l.v l.map ≡ l.k + tally l.v (drop l.b-index l.map))
