-- `merge_file::merge_held` is safe: the third block and map lie within their buffers.
use Rattle.table.specs.BufferLaws.{part-of-same}
use Rattle.merge_file.proofs.merge_held.Goals as goal

pub slice_bounds-merge_into-end : goal.slice_bounds-merge_into-end
slice_bounds-merge_into-end g c = part-of-same _ 32768 0 c.requires.0

pub slice_bounds-merge_into-end-2 : goal.slice_bounds-merge_into-end-2
slice_bounds-merge_into-end-2 g c = part-of-same _ 1024 0 c.requires.1
