-- `put_byte` meets its contract: it is stored inside the text, and not behind it.
use Rattle.alist_numbers.specs.PutLaws.{put_in, put-out}
use Rattle.alist_numbers.proofs.put_byte.Goals as goal

pub returns-then-at-text : goal.returns-then-at-text
returns-then-at-text c = put_in _ _ _ c.if-at-text.true

pub returns : goal.returns
returns c = put-out _ _ _ c.if-at-text.false
