-- `emit::sum_check` meets its contract: the places that are left, one after the other.
use Prim.Native.Nat.{◌+◌}
use lib.ListN.{drop}
use Rattle.lists.specs.WroteLaws.{Left}
use Rattle.emit.proofs.Sums.{adds}
use Rattle.emit.proofs.sum_check.Given as goal

abbrev pub invariant-loop-p : goal.invariant-loop-p
invariant-loop-p l = Left l.initial.plan (l.at + 1) (adds l.to l.skip l.places) (adds l.to l.skip (drop l.p-index l.places)) l.plan l.k
