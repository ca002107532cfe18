-- `masks::mend` meets its contract: i masks are mended.
use Rattle.masks.proofs.Masks.{Part}
use Rattle.masks.proofs.mend.Given as goal

abbrev pub invariant-loop-i : goal.invariant-loop-i
invariant-loop-i l = Part l.i l.v l.c l.initial.masks l.masks
