-- `made_table::print_table` is safe: an accepted table has its head and its weights.
use native.Mathlib.Omega.{arith}
use Rattle.made_table.proofs.Long.{long}
use Rattle.made_table.proofs.print_table.Goals as goal

pub bounds-table-3 : goal.bounds-table-3
bounds-table-3 g c = let l = (long c.args.table.now c.requires).head in omega arith

pub overflow_add-checks : goal.overflow_add-checks
overflow_add-checks g c =
    let l = long c.args.table.now c.requires in
    let e = c.from-checks.ensures in
    omega arith

pub offset_bounds-table-checks : goal.offset_bounds-table-checks
offset_bounds-table-checks g c =
    let l = long c.args.table.now c.requires in
    let e = c.from-checks.ensures in
    omega arith

pub bounds-table-checks : goal.bounds-table-checks
bounds-table-checks g c =
    let l = long c.args.table.now c.requires in
    let e = c.from-checks.ensures in
    omega arith
