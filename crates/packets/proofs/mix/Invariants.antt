-- `packets::mix` meets its contract: after i turns, i bytes are added.
use Prim.Native.Nat.{◌≤◌}
use lib.ListN.{length}
use Rattle.lists.specs.Buffers.{Patched}
use Rattle.packets.proofs.Buffers.{sum_at}
use Rattle.packets.proofs.mix.Given as goal

abbrev pub invariant-loop-i : goal.invariant-loop-i
invariant-loop-i l = (l.i ≤ length l.t) × Patched l.initial.b l.at l.i (sum_at l.initial.b l.at l.t) l.b
