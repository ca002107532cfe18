-- `marks::zero_lost` meets its contract.
use Rattle.table.specs.Packets.{packets}
use Rattle.erasure.specs.Restoring.{zero_lost}
use Rattle.marks.proofs.BlockLaws.{zero_from}
use Prim.Native.Nat.{◌*◌}
use mathlib.Core.Path.{◌≡◌}
use lib.ListN.{length}
use Rattle.marks.proofs.zero_lost.Given as goal

abbrev pub invariant-loop-p : goal.invariant-loop-p
invariant-loop-p l = let n = l.table.places in let s = l.table.size in
    (length l.block ≡ n * s) × (zero_lost s l.map (packets s n l.initial.block) ≡ zero_from s l.map (packets s n l.block) l.p)
