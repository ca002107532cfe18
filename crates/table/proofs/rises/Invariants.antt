-- `rises` meets its contract: the places left, and the least that the next may be, decide.
use mathlib.Core.Path.{◌≡◌}
use lib.ListN.{drop}
use Rattle.table.specs.Table.{rising}
use Rattle.table.proofs.Looking.{rest}
use Rattle.table.proofs.rises.Given as goal

abbrev pub invariant-loop-p : goal.invariant-loop-p
invariant-loop-p l = rising l.n 0 l.places ≡ rest l.n l.low (drop l.p-index l.places)
