-- `merge_file::merge_second` is safe: what was read lies within the buffers.
use Rattle.text.specs.Files.{read_count}
use Rattle.merge_file.proofs.merge_second.Goals as goal

pub slice_bounds-block-end : goal.slice_bounds-block-end
slice_bounds-block-end g c = (read_count _ c.in_ok-bytes.ensures c.in-Some.is).0

pub slice_bounds-merge_held-end : goal.slice_bounds-merge_held-end
slice_bounds-merge_held-end g c = (read_count _ c.in_ok-bytes.ensures c.in-Some.is).1

pub slice_bounds-map-end : goal.slice_bounds-map-end
slice_bounds-map-end g c = (read_count _ c.in_ok-places.ensures c.in-Some-2.is).0

pub slice_bounds-merge_held-end-2 : goal.slice_bounds-merge_held-end-2
slice_bounds-merge_held-end-2 g c = (read_count _ c.in_ok-places.ensures c.in-Some-2.is).1
