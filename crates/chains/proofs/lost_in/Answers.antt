-- `chains::lost_in` meets its contract.
use Rattle.lists.specs.ListLaws.{all-at}
use Rattle.chains.proofs.lost_in.Goals as goal

pub bounds-map-from : goal.bounds-map-from
bounds-map-from c = rw c.from.ensures (all-at 0 c.requires c.loop-p.p-index c.loop-p-test.true)
