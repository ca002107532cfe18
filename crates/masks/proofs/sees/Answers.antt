-- `masks::sees` meets its contract.
use Rattle.masks.specs.DotLaws.{seen}
use Rattle.masks.proofs.sees.Goals as goal

pub returns : goal.returns
returns c = seen _ _
