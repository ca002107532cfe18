-- `merge_file::merge_first` is safe: what was read lies within the buffers.
use Rattle.text.specs.Files.{read_count}
use Rattle.merge_file.proofs.Reading.{read-within}
use Rattle.merge_file.proofs.merge_first.Goals as goal

pub slice_bounds-block-end : goal.slice_bounds-block-end
slice_bounds-block-end g c = (read_count _ c.in_ok-bytes.ensures c.in-Some.is).0

pub slice_bounds-merge_second-end : goal.slice_bounds-merge_second-end
slice_bounds-merge_second-end g c = (read_count _ c.in_ok-bytes.ensures c.in-Some.is).1

pub slice_bounds-map-end : goal.slice_bounds-map-end
slice_bounds-map-end g c = (read_count _ c.in_ok-places.ensures c.in-Some-2.is).0

pub slice_bounds-merge_second-end-2 : goal.slice_bounds-merge_second-end-2
slice_bounds-merge_second-end-2 g c = (read_count _ c.in_ok-places.ensures c.in-Some-2.is).1

pub merge_second-requires : goal.merge_second-requires
merge_second-requires g c =
    (read-within _ 32768 c.in_ok-bytes.ensures c.in-Some.is c.block-2-1.given, read-within _ 1024 c.in_ok-places.ensures c.in-Some-2.is c.map-2-1.given)
