-- `packets::store` meets its contract: after i turns, i bytes are written.
use Prim.Native.Nat.{◌≤◌}
use lib.ListN.{length, get_or}
use Rattle.lists.specs.Buffers.{Patched}
use Rattle.packets.proofs.store.Given as goal

abbrev pub invariant-loop-i : goal.invariant-loop-i
invariant-loop-i l = (l.i ≤ length l.t) × Patched l.initial.b l.at l.i (λ k. get_or l.t k 0) l.b
