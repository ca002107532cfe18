-- `alist_to_table::make_file` is safe: the table that was read lies within its buffer and is accepted; what is refused has its words.
use lib.ListN.{replicate}
use Rattle.std.proofs.Common.{refl}
use Rattle.alist_to_table.proofs.TableRead.{table-stands, table-accepted, refusals-said}
use Rattle.alist_to_table.proofs.make_file.Goals as goal

pub refuse-requires : goal.refuse-requires
refuse-requires g c = refusals-said c.args.text.now c.args.s (replicate 6661 0) _ c.in-Err.ensures.answer refl

pub slice_bounds-table-end : goal.slice_bounds-table-end
slice_bounds-table-end g c = let m = c.in-Ok.ensures in (table-stands c.args.text.now c.args.s (replicate 6661 0) _ _ m.answer m.table).within

pub slice_bounds-write_table-end : goal.slice_bounds-write_table-end
slice_bounds-write_table-end g c = let m = c.in-Ok.ensures in (table-stands c.args.text.now c.args.s (replicate 6661 0) _ _ m.answer m.table).counts

pub write_table-requires : goal.write_table-requires
write_table-requires g c = let m = c.in-Ok.ensures in table-accepted c.args.text.now c.args.s (replicate 6661 0) _ _ m.answer m.table
