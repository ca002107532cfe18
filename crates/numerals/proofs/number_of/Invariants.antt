-- `numerals::number_of` meets its contract. The loop's invariant: x comes of the bytes so far, and the rest decides.
use Rattle.numerals.proofs.Laws.{Rest}
use Rattle.numerals.proofs.number_of.Given as goal

abbrev pub invariant-loop-byte : goal.invariant-loop-byte
invariant-loop-byte l = Rest l.text l.x l.byte-index
