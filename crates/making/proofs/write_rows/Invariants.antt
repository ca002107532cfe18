-- `making::write_rows` meets its contract: what is left to write are the places of the rows left.
use Rattle.lists.specs.WroteLaws.{Left}
use Rattle.bits.specs.Row.{rows_in}
use Rattle.making.specs.Written.{flat}
use Rattle.making.specs.Rows.{rows_from}
use Rattle.making.proofs.write_rows.Given as goal

abbrev pub invariant-loop-i : goal.invariant-loop-i
invariant-loop-i l = Left l.initial.table l.at (flat (rows_in l.w l.m)) (flat (rows_from l.w l.m l.i)) l.table l.k
