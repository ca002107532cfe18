-- `columns::fill_columns` meets its contract: the columns are those of the first i set-aside checks.
use Rattle.std.proofs.Common.{map, take}
use Rattle.gf2.specs.Gf2.{row_of}
use Rattle.table.specs.Checks.{check}
use Rattle.columns.specs.Cols.{Columns}
use Rattle.columns.proofs.fill_columns.Given as goal

abbrev pub invariant-loop-i : goal.invariant-loop-i
invariant-loop-i l = Columns (map row_of (map (check l.located.table.words.now l.located.table.checks) (take l.i l.aside))) l.col
