-- `start::mark_slots` meets its contract: all marks, or none.
use Rattle.start.proofs.MarkLaws.{only-marked, only_none}
use Rattle.start.proofs.mark_slots.Goals as goal

pub returns-then-s-ge-LONG : goal.returns-then-s-ge-LONG
returns-then-s-ge-LONG c = only-marked c.mark_cleared.ensures

pub returns-else-s-ge-LONG : goal.returns-else-s-ge-LONG
returns-else-s-ge-LONG c = only_none _ c.requires.none
