-- `full_repair_file::main` is safe: the words that were read lie within the table's buffer.
use Rattle.text.specs.Files.{read_count}
use Rattle.full_repair_file.proofs.main.Goals as goal

pub slice_bounds-words-end : goal.slice_bounds-words-end
slice_bounds-words-end c = (read_count _ c.in_ok-n.ensures c.in-Some.is).0

pub slice_bounds-repair_files-end : goal.slice_bounds-repair_files-end
slice_bounds-repair_files-end c = (read_count _ c.in_ok-n.ensures c.in-Some.is).1
