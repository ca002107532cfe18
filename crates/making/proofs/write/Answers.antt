-- `making::write` meets its contract: the parts of the table, one after the other.
use Rattle.bits.specs.Row.{rows_in}
use Rattle.making.specs.MakingLaws.{rows-length}
use Rattle.making.proofs.Whole.{rows-room, whole, whole_length}
use Rattle.making.proofs.write.Goals as goal

pub write_rows-requires : goal.write_rows-requires
write_rows-requires c =
    let a = c.args in
    let p = c.requires in
    let h = c.write_head in
    let v = c.write_weights in
    (rows-room a.table.now a.n a.s a.m a.ones (rows_in a.w.now a.m) p.2 (rows-length a.w.now a.m) p.5 p.0 p.1 h.ensures v.ensures, p.6)

pub shape_of-table : goal.shape_of-table
shape_of-table c =
    let a = c.args in
    let p = c.requires in
    let h = c.write_head in
    let v = c.write_weights in
    whole_length a.table.now a.n a.s a.m a.ones (rows_in a.w.now a.m) p.2 (rows-length a.w.now a.m) p.5 p.0 p.1 h.ensures v.ensures c.write_rows.ensures

pub returns : goal.returns
returns c =
    let a = c.args in
    let p = c.requires in
    let h = c.write_head in
    let v = c.write_weights in
    whole a.table.now a.n a.s a.m a.ones (rows_in a.w.now a.m) p.2 (rows-length a.w.now a.m) p.5 p.0 p.1 h.ensures v.ensures c.write_rows.ensures
