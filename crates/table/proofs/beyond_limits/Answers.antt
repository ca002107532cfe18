-- `beyond_limits` meets its contract: the first word, and then the limits.
use Rattle.table.proofs.Looking.{limit-first, limit-rest}
use Rattle.table.proofs.beyond_limits.Goals as goal

pub returns-then-t-ne2 : goal.returns-then-t-ne2
returns-then-t-ne2 c = limit-first c.args.t.now c.if-t-ne2.true

pub returns : goal.returns
returns c =
    limit-rest c.args.t.now _ _ _ _
    c.if-t-ne2.false
    c.from.ensures
    c.from-2.ensures
    c.from-3.ensures
    c.beyond.ensures
