-- `verify_file::verify` is safe: the bytes that were read lie within the block's buffer.
use Rattle.text.specs.Files.{read_count}
use Rattle.verify_file.proofs.verify.Goals as goal

pub slice_bounds-block-end : goal.slice_bounds-block-end
slice_bounds-block-end g c = (read_count _ c.in_ok-n.ensures c.in-Some.is).0

pub slice_bounds-verify-end : goal.slice_bounds-verify-end
slice_bounds-verify-end g c = (read_count _ c.in_ok-n.ensures c.in-Some.is).1
