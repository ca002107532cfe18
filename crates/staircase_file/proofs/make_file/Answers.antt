-- `staircase_file::make_file` is safe: the table that was made lies within its buffer and is accepted.
use lib.ListN.{replicate}
use Rattle.staircase_file.proofs.TableMade.{table-stands, table-accepted}
use Rattle.staircase_file.proofs.make_file.Goals as goal

pub slice_bounds-table-end : goal.slice_bounds-table-end
slice_bounds-table-end g c =
    let m = c.in-Ok in
    let a = c.args in
    (table-stands a.k a.n a.ones a.seed a.s (replicate 6661 0) _ m.length m.ensures.answer m.ensures.table).within

pub slice_bounds-write_table-end : goal.slice_bounds-write_table-end
slice_bounds-write_table-end g c =
    let m = c.in-Ok in
    let a = c.args in
    (table-stands a.k a.n a.ones a.seed a.s (replicate 6661 0) _ m.length m.ensures.answer m.ensures.table).counts

pub write_table-requires : goal.write_table-requires
write_table-requires g c =
    let m = c.in-Ok in
    let a = c.args in
    table-accepted a.k a.n a.ones a.seed a.s (replicate 6661 0) _ m.length m.ensures.answer m.ensures.table
