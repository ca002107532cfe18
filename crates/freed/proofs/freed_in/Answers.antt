-- `freed::freed_in` meets its contract: so many of the places before.
use Rattle.lists.specs.ListLaws.{all-at}
use Rattle.freed.proofs.freed_in.Goals as goal

pub bounds-count-p : goal.bounds-count-p
bounds-count-p c = rw c.from-p.ensures (all-at 0 c.requires c.loop-p.p-index c.loop-p-test.true)
