-- `tracing::write_checks` meets its contract: the checks so far are looked at.
use Prim.Native.Nat.{◌≤◌}
use Rattle.bits.specs.Front.{Front}
use Rattle.bits.specs.Row.{row}
use Rattle.reasons.specs.Reasons.{named}
use Rattle.reasons.specs.Noting.{bits_below}
use Rattle.tracing.proofs.write_checks.Given as goal

abbrev pub invariant-loop-i : goal.invariant-loop-i
invariant-loop-i l = record {
  few : l.c ≤ l.i;
  list : Front (named (bits_below l.i (row l.need 0)) l.ids) l.initial.list l.list l.c;
}
