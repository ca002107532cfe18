-- `sums::vanishes` meets its contract: where all bytes or-ed are zero, the bytes of the sum passed are.
use Prim.Native.Nat.{◌+◌, ◌-◌, ◌≤◌}
use mathlib.Core.Path.{◌≡◌}
use lib.ListN.{length, drop}
use Rattle.packets.specs.Given.{sum_at}
use Rattle.table.specs.Packets.{lowest_nonzero}
use Rattle.sums.proofs.vanishes.Given as goal

abbrev pub invariant-loop-i : goal.invariant-loop-i
invariant-loop-i l = (l.i ≤ l.s) × ((length l.o ≡ 64) × (lowest_nonzero l.o ≡ 64 → lowest_nonzero (sum_at l.places l.block l.n l.s) ≡ l.i + lowest_nonzero (drop l.i (sum_at l.places l.block l.n l.s))))

abbrev pub decreases-loop-i : goal.decreases-loop-i
decreases-loop-i l = l.s - l.i
