-- `planlist::main` is safe: what was read lies within the buffer.
use Rattle.text.specs.Files.{read_count}
use Rattle.planlist.proofs.main.Goals as goal

pub slice_bounds-file-end : goal.slice_bounds-file-end
slice_bounds-file-end c = (read_count _ c.in_ok-n.ensures c.in-Some.is).0

pub slice_bounds-list-end : goal.slice_bounds-list-end
slice_bounds-list-end c = (read_count _ c.in_ok-n.ensures c.in-Some.is).1
