-- `slots::add_part` meets its contract: in the block or in the scratch.
use Rattle.std.proofs.Common.{arith}
use Rattle.slots.proofs.PartLaws.{added-front, added-back}
use Rattle.slots.proofs.add_part.Goals as goal

pub returns-then-f-n : goal.returns-then-f-n
returns-then-f-n c =
    let a = c.args in
    let p = c.requires in
    let m = c.if-f-n.true in
    record { sum = λ st h l. added-front a.n a.s st a.block.now a.scratch.now h a.f a.off l m a.acc.now _ p.room (omega (arith, p.slot.below m)) c.add_from.ensures }

pub returns-else-f-n : goal.returns-else-f-n
returns-else-f-n c =
    let a = c.args in
    let p = c.requires in
    let m = c.if-f-n.false in
    record { sum = λ st h l. added-back a.n a.s st a.block.now a.scratch.now h a.f a.off l m a.acc.now _ p.room (omega (arith, p.slot.above m)) c.add_from-else-f-n.ensures }
