-- `numbers::read` meets its contract: blanks skipped, then digits taken.
use Rattle.numbers.proofs.Reading.{reads}
use Rattle.numbers.proofs.read.Goals as goal

pub returns : goal.returns
returns c = reads c.skip-start.ensures c.take_digits.ensures
