-- `compose::clears` meets its contract: none set aside, or some.
use Rattle.compose.proofs.ClearSteps.{clears-some}
use Rattle.compose.proofs.clears.Goals as goal

pub returns-else-g-eq0 : goal.returns-else-g-eq0
returns-else-g-eq0 c =
    clears-some c.args.taken c.args.g c.if-g-eq0.false
