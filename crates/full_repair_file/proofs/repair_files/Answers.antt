-- `full_repair_file::repair_files` is safe: what was read lies within the buffers.
use Rattle.text.specs.Files.{read_count}
use Rattle.full_repair_file.proofs.repair_files.Goals as goal

pub slice_bounds-block-end : goal.slice_bounds-block-end
slice_bounds-block-end g c = (read_count _ c.in_ok-bytes.ensures c.in-Some.is).0

pub slice_bounds-repair_block-end : goal.slice_bounds-repair_block-end
slice_bounds-repair_block-end g c = (read_count _ c.in_ok-bytes.ensures c.in-Some.is).1

pub slice_bounds-map-end : goal.slice_bounds-map-end
slice_bounds-map-end g c = (read_count _ c.in_ok-places.ensures c.in-Some-2.is).0

pub slice_bounds-repair_block-end-2 : goal.slice_bounds-repair_block-end-2
slice_bounds-repair_block-end-2 g c = (read_count _ c.in_ok-places.ensures c.in-Some-2.is).1
