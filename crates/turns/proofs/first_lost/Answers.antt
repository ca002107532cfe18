-- `turns::first_lost` meets its contract.
use Rattle.lists.specs.ListLaws.{all-at}
use Rattle.turns.proofs.first_lost.Goals as goal

pub bounds-map-p : goal.bounds-map-p
bounds-map-p c = rw c.from-p.ensures (all-at 0 c.requires c.loop-p.p-index c.loop-p-test.true)
