-- `vacant` meets its contract.
use mathlib.Core.Path.{ap}
use mathlib.Core.Bool.{not}
use Rattle.lots.proofs.vacant.Goals as goal

pub returns : goal.returns
returns c = ap not c.has_place.ensures
