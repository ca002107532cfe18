-- `making::weigh` meets its contract: the rows left, and the sum so far, decide.
use mathlib.Core.Path.{◌≡◌}
use mathlib.Core.List.{map}
use Prim.Native.Nat.{◌*◌, ◌≤◌}
use lib.ListN.{length}
use Rattle.table.specs.LookOver.{weighed}
use Rattle.bits.specs.Row.{rows_in}
use Rattle.making.specs.Rows.{rows_from}
use Rattle.table.specs.WeighLaws.{weighed_on}
use Rattle.making.proofs.weigh.Given as goal

abbrev pub invariant-loop-i : goal.invariant-loop-i
invariant-loop-i l = (l.sum ≤ 64 * l.i) × (weighed (map length (rows_in l.w l.m)) ≡ weighed_on l.sum (map length (rows_from l.w l.m l.i)))
