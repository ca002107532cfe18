-- `put_stairs` meets its contract: row after row.
use Rattle.staircase.specs.Staired.{Staired}
use Rattle.staircase.proofs.put_stairs.Given as goal

abbrev pub invariant-loop-i : goal.invariant-loop-i
invariant-loop-i l = Staired l.k l.i l.initial.w l.w
