-- `text::read_whole` meets its contract: what was read lies within the buffer.
use Rattle.text.specs.Files.{read_count}
use Rattle.text.proofs.read_whole.Goals as goal

pub returns-then-n-buf : goal.returns-then-n-buf
returns-then-n-buf g c = read_count _ c.in_ok-n.ensures c.in-Some.is

pub returns : goal.returns
returns g c = read_count _ c.in_ok-n.ensures c.in-Some.is
