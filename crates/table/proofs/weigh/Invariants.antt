-- `weigh` meets its contract: the weights left, and the sum so far, decide.
use mathlib.Core.Path.{◌≡◌}
use Prim.Native.Nat.{◌*◌, ◌≤◌}
use lib.ListN.{drop}
use Rattle.table.specs.LookOver.{weighed}
use Rattle.table.specs.WeighLaws.{weighed_on}
use Rattle.table.proofs.weigh.Given as goal

abbrev pub invariant-loop-w : goal.invariant-loop-w
invariant-loop-w l = (l.sum ≤ 64 * l.w-index) × (weighed l.weights ≡ weighed_on l.sum (drop l.w-index l.weights))
