-- `slots::add_base` meets its contract: nothing after a clear.
use borrow.Author.Tests.{not-false}
use Rattle.slots.proofs.PartLaws.{zeros-added}
use Rattle.slots.proofs.add_base.Goals as goal

pub returns-else-not-fresh : goal.returns-else-not-fresh
returns-else-not-fresh c = let a = c.args in record { sum = λ st h l. rw (not-false a.fresh c.if-not-fresh.false-raw) (zeros-added a.s a.off a.acc.now c.requires.room) }
