-- `masks::tie` meets its contract.
use Rattle.std.proofs.Common.{arith}
use Rattle.masks.proofs.Masks.{tied}
use Rattle.masks.proofs.tie.Goals as goal

pub returns : goal.returns
returns c = tied _ _ _ _ _ _ (omega arith) (omega arith) (omega arith) c.mend.ensures
