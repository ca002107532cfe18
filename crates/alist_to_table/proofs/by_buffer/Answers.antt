-- `alist_to_table::by_buffer` is safe: what was read lies within the buffer.
use Rattle.text.specs.Files.{read_count}
use Rattle.alist_to_table.proofs.by_buffer.Goals as goal

pub slice_bounds-make_file-end : goal.slice_bounds-make_file-end
slice_bounds-make_file-end g c = (read_count _ c.in_ok-n.ensures c.in-Some.is).0

pub slice_bounds-make_file-end-2 : goal.slice_bounds-make_file-end-2
slice_bounds-make_file-end-2 g c = (read_count _ c.in_ok-n.ensures c.in-Some.is).1
