-- `beyond` meets its contract: the three limits, one by one.
use Rattle.table.proofs.Looking.{beyond-places, beyond-bytes, beyond-checks}
use Rattle.table.proofs.beyond.Goals as goal

pub returns-then-outside : goal.returns-then-outside
returns-then-outside c = let a = c.args in beyond-places a.n a.s a.m c.outside.ensures c.if-outside.true

pub returns-then-outside-2 : goal.returns-then-outside-2
returns-then-outside-2 c = let a = c.args in beyond-bytes a.n a.s a.m c.outside-2.ensures c.if-outside-2.true

pub returns : goal.returns
returns c =
    let a = c.args in
    beyond-checks a.n a.s a.m c.outside.ensures c.if-outside.false c.outside-2.ensures c.if-outside-2.false
