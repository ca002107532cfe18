-- `tracing::bit_of` meets its contract.
use mathlib.Core.Path.{refl}
use Rattle.tracing.proofs.bit_of.Goals as goal

pub returns : goal.returns
returns c = refl
