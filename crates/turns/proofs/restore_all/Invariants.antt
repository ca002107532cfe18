-- `turns::restore_all` meets its contract.
use Rattle.table.specs.Table.{checks}
use Rattle.erasure.specs.LostLaws.{lost_in}
use Rattle.turns.specs.Spent.{Spent}
use Rattle.turns.proofs.Ordering.{Tracked}
use Rattle.turns.proofs.Turning.{Going}
use Rattle.turns.proofs.restore_all.Given as goal

abbrev pub invariant-loop-j : goal.invariant-loop-j
invariant-loop-j l = Going l.located.table.places l.located.table.size (checks l.located.table.words.now) l.initial.block l.initial.map l.block l.map l.adds × Tracked l.located.table.words.now l.located.table.checks l.map l.count l.low × Spent l.located.table.words.now l.located.table.checks l.located.table.places l.located.table.size l.block l.map l.used

abbrev pub decreases-loop-j : goal.decreases-loop-j
decreases-loop-j l = lost_in l.map
