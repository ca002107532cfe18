-- `bits::add_low` meets its contract: the loop has added i words.
use Rattle.bits.proofs.Words.{Wrote, both}
use Rattle.bits.proofs.add_low.Given as goal

abbrev pub invariant-loop-i : goal.invariant-loop-i
invariant-loop-i l = Wrote l.initial.w l.b (both l.initial.w l.a l.b) l.i l.w
