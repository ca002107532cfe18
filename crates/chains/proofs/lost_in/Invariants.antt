-- `chains::lost_in` meets its contract.
use Rattle.erasure.specs.Restoring.{lost_places}
use Prim.Native.Nat.{◌+◌, ◌≤◌}
use mathlib.Core.Path.{◌≡◌}
use lib.ListN.{length, drop}
use Rattle.chains.proofs.lost_in.Given as goal

abbrev pub invariant-loop-p : goal.invariant-loop-p
invariant-loop-p l = (l.k ≤ l.p-index) × (length (lost_places l.map l.places) ≡ l.k + length (lost_places l.map (drop l.p-index l.places)))
