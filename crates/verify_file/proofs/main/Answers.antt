-- `verify_file::main` is safe: the words that were read lie within the table's buffer.
use Rattle.text.specs.Files.{read_count}
use Rattle.verify_file.proofs.main.Goals as goal

pub slice_bounds-words-end : goal.slice_bounds-words-end
slice_bounds-words-end c = (read_count _ c.in_ok-n.ensures c.in-Some.is).0

pub slice_bounds-verify-end : goal.slice_bounds-verify-end
slice_bounds-verify-end c = (read_count _ c.in_ok-n.ensures c.in-Some.is).1
