-- `live::raise` meets its contract: the bound lies above so many places.
use Rattle.std.proofs.Common.{arith}
use Rattle.lists.specs.ListLaws.{all-at}
use Rattle.live.proofs.raise.Goals as goal

pub bounds-count-p : goal.bounds-count-p
bounds-count-p c = let low = all-at 0 c.requires.places c.loop-p.p-index c.loop-p-test.true in let e = c.from-p.ensures in omega arith
