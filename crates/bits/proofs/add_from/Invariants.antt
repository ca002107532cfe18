-- `bits::add_from` meets its contract: the loop has added i words.
use Rattle.bits.proofs.Words.{Wrote, across}
use Rattle.bits.proofs.add_from.Given as goal

abbrev pub invariant-loop-i : goal.invariant-loop-i
invariant-loop-i l = Wrote l.initial.w l.b (across l.from l.a l.initial.w l.b) l.i l.w
