-- `encode_file::main` is safe: the words that were read lie within the table's buffer.
use Rattle.text.specs.Files.{read_count}
use Rattle.encode_file.proofs.main.Goals as goal

pub slice_bounds-words-end : goal.slice_bounds-words-end
slice_bounds-words-end c = (read_count _ c.in_ok-n.ensures c.in-Some.is).0

pub slice_bounds-encode_file-end : goal.slice_bounds-encode_file-end
slice_bounds-encode_file-end c = (read_count _ c.in_ok-n.ensures c.in-Some.is).1
