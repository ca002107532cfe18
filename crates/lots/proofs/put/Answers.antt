-- `put` meets its contract.
use Rattle.lots.proofs.Putting.{flip-puts}
use Rattle.lots.proofs.put.Goals as goal

pub returns : goal.returns
returns c = flip-puts _ _ _ _ c.flip.ensures c.requires.3
