-- `bits::highest` meets its contract: the loop has passed over the words from j on.
use Rattle.gf2.specs.Gf2.{Short}
use Rattle.bits.specs.Row.{row}
use Prim.Native.Nat.{◌*◌}
use Rattle.bits.proofs.highest.Given as goal

abbrev pub invariant-loop-j : goal.invariant-loop-j
invariant-loop-j l = Short (l.j * 64) (row l.w l.r)
