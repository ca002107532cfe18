-- `table_to_alist::write_text` is safe: what is written is the table's text, and lies within its buffer; what is refused has its words.
use Rattle.table_to_alist.proofs.TextWritten.{text-stands, refusals-said}
use Rattle.table_to_alist.proofs.write_text.Goals as goal

pub say_table_refused-requires : goal.say_table_refused-requires
say_table_refused-requires g c = rw c.number.ensures (refusals-said _ _ _ c.in-Err.ensures.answer c.requires)

pub slice_bounds-write_bytes-end : goal.slice_bounds-write_bytes-end
slice_bounds-write_bytes-end g c = let m = c.in-Ok.ensures in (text-stands _ _ _ _ m.answer m.text).within

pub slice_bounds-write_bytes-end-in-Ok : goal.slice_bounds-write_bytes-end-in-Ok
slice_bounds-write_bytes-end-in-Ok g c = let m = c.in-Ok.ensures in (text-stands _ _ _ _ m.answer m.text).counts

pub write_bytes-requires : goal.write_bytes-requires
write_bytes-requires g c = let m = c.in-Ok.ensures in (_, (text-stands _ _ _ _ m.answer m.text).is)
