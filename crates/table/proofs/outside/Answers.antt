-- `outside` meets its contract.
use Rattle.table.proofs.Looking.{out-zero, out-over}
use Rattle.table.proofs.outside.Goals as goal

pub returns-then-x-eq0 : goal.returns-then-x-eq0
returns-then-x-eq0 c = out-zero _ _ c.if-x-eq0.true

pub returns : goal.returns
returns c = out-over _ _ c.if-x-eq0.false
