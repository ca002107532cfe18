-- `copying::together` meets its contract: the places passed follow each other.
use Rattle.std.proofs.Common.{arith}
use Rattle.copying.proofs.Following.{together-one, together-more}
use Rattle.copying.proofs.together.Goals as goal

pub loop-r-init : goal.loop-r-init
loop-r-init c = together-one c.requires

pub loop-r-preserved : goal.loop-r-preserved
loop-r-preserved c = together-more c.loop-r-test.true c.loop-r.invariant (omega arith)
