-- `text::read_table` meets its contract: the words stand at the start of the buffer.
use Rattle.table_file.proofs.WordsLaws.{words-within}
use Rattle.text.specs.Files.{read_count}
use Rattle.text.proofs.read_table.Goals as goal

pub slice_bounds-file-end : goal.slice_bounds-file-end
slice_bounds-file-end g c = (read_count _ c.in_ok-n.ensures c.in-Some.is).0

pub slice_bounds-words_in-end : goal.slice_bounds-words_in-end
slice_bounds-words_in-end g c = (read_count _ c.in_ok-n.ensures c.in-Some.is).1

pub returns : goal.returns
returns g c = words-within _ c.args.words.now c.requires c.words_in.ensures.answer c.words_in.ensures.words c.in-Some-words_in.is
