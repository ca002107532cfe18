-- `slots::put_part` meets its contract: in the block or in the scratch.
use Rattle.slots.proofs.PartLaws.{put_front, put_back}
use Rattle.slots.proofs.put_part.Goals as goal

pub returns-then-to-n : goal.returns-then-to-n
returns-then-to-n c =
    let a = c.args in
    record { slots = λ st h l. put_front a.n a.s st a.block.now a.scratch.now h a.to a.off l c.if-to-n.true a.acc.now _ c.requires.room c.copy.ensures }

pub returns-else-to-n : goal.returns-else-to-n
returns-else-to-n c =
    let a = c.args in
    record { slots = λ st h l. put_back a.n a.s st a.block.now a.scratch.now h a.to a.off l c.if-to-n.false a.acc.now _ c.requires.room c.copy-else-to-n.ensures }
