-- `sums::or_into` meets its contract: the bytes passed are zero only where both were.
use Rattle.sums.proofs.Sums.{Ored}
use Rattle.sums.proofs.or_into.Given as goal

abbrev pub invariant-loop-i : goal.invariant-loop-i
invariant-loop-i l = Ored l.initial.o l.a l.i l.o
