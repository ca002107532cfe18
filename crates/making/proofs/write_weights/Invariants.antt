-- `making::write_weights` meets its contract: what is left to write are the weights of the rows left.
use mathlib.Core.List.{map}
use Prim.Native.Nat.{◌+◌}
use lib.ListN.{length}
use Rattle.lists.specs.WroteLaws.{Left}
use Rattle.bits.specs.Row.{rows_in}
use Rattle.making.specs.Rows.{rows_from}
use Rattle.making.proofs.write_weights.Given as goal

abbrev pub invariant-loop-i : goal.invariant-loop-i
invariant-loop-i l = Left l.initial.table 4 (map length (rows_in l.w l.m)) (map length (rows_from l.w l.m l.i)) l.table (4 + l.i)
