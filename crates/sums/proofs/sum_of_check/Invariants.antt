-- `sums::sum_of_check` meets its contract: by one test of all pieces, or else the bytes of the sum passed are zero.
use Prim.Native.Nat.{◌+◌, ◌-◌, ◌≤◌}
use mathlib.Core.Path.{◌≡◌}
use lib.ListN.{drop}
use Rattle.packets.specs.Given.{sum_at}
use Rattle.table.specs.Packets.{lowest_nonzero}
use Rattle.sums.proofs.sum_of_check.Given as goal

abbrev pub invariant-loop-i : goal.invariant-loop-i
invariant-loop-i l = (l.i ≤ l.s) × (lowest_nonzero (sum_at l.places l.block l.n l.s) ≡ l.i + lowest_nonzero (drop l.i (sum_at l.places l.block l.n l.s)))

abbrev pub decreases-loop-i : goal.decreases-loop-i
decreases-loop-i l = l.s - l.i
