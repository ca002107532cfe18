-- `packets::restore` meets its contract: after each turn, the bytes passed of the packet at p are those of the sum.
use Prim.Native.Nat.{◌-◌, ◌*◌, ◌≤◌, ◌<◌}
use mathlib.Core.Path.{◌≡◌}
use lib.ListN.{length}
use Rattle.lists.specs.Buffers.{Patched}
use Rattle.packets.specs.Given.{Given}
use Rattle.packets.proofs.Gathering.{bytes_of}
use Rattle.packets.proofs.restore.Given as goal

abbrev pub invariant-loop-i : goal.invariant-loop-i
invariant-loop-i l = (l.i ≤ l.s) × ((length l.block ≡ length l.initial.block) × ((ok : Given l.places l.initial.block l.n l.s) (in-n : l.p < l.n) → Patched l.initial.block (l.p * l.s) l.i (bytes_of l.places l.initial.block l.n l.s l.skip ok l.p in-n) l.block))

abbrev pub decreases-loop-i : goal.decreases-loop-i
decreases-loop-i l = l.s - l.i
