-- `encode_file::encode_within` is safe: the parts lie within the buffers.
use Rattle.table.specs.BufferLaws.{part-of-same}
use Rattle.encode_file.proofs.encode_within.Goals as goal

pub slice_bounds-encode_source-end : goal.slice_bounds-encode_source-end
slice_bounds-encode_source-end g c = part-of-same c.args.part 32768 0 c.requires.0

pub slice_bounds-encode_source-end-2 : goal.slice_bounds-encode_source-end-2
slice_bounds-encode_source-end-2 g c = part-of-same c.args.whole 32768 0 c.requires.1

pub slice_bounds-encode_source-end-3 : goal.slice_bounds-encode_source-end-3
slice_bounds-encode_source-end-3 g c = part-of-same c.args.spare 32768 0 c.requires.2
