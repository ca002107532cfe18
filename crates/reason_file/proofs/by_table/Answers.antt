-- `reason_file::by_table` is safe: the words that were read lie within the table's buffer.
use Rattle.text.specs.Files.{read_count}
use Rattle.reason_file.proofs.by_table.Goals as goal

pub slice_bounds-words-end : goal.slice_bounds-words-end
slice_bounds-words-end g c = (read_count _ c.in_ok-n.ensures c.in-Some.is).0

pub slice_bounds-explain_files-end : goal.slice_bounds-explain_files-end
slice_bounds-explain_files-end g c = (read_count _ c.in_ok-n.ensures c.in-Some.is).1
