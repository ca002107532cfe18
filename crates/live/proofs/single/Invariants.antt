-- `live::single` meets its contract: the rest of the scan decides.
use lib.Dec.{eqb}
use Rattle.lists.specs.Lists.{highest}
use Rattle.live.specs.Live.{found}
use Prim.Native.Nat.{◌≤◌}
use mathlib.Core.Path.{◌≡◌}
use lib.ListN.{get_or}
use Rattle.live.proofs.single.Given as goal

abbrev pub invariant-loop-p : goal.invariant-loop-p
invariant-loop-p l = (l.p ≤ l.n) × (found (highest l.n (λ q. eqb (get_or l.count q 0) 1)) ≡ found (highest l.p (λ q. eqb (get_or l.count q 0) 1)))

abbrev pub decreases-loop-p : goal.decreases-loop-p
decreases-loop-p l = l.p
