-- `blame::search` meets its contract: none, one and no other, or two.
use Rattle.blame.proofs.Narrowing.{small-accepted}
use Rattle.blame.proofs.search.Goals as goal

pub invariant_of-small : goal.invariant_of-small
invariant_of-small c =
    let a = c.args in
    let p = c.requires in
    record { accepted = small-accepted _ _ _ _ a.table.now.accepted a.block.now _ _ (record { byte = a.byte; below = p.byte; table_is = c.narrow_table.ensures; column-is = c.take_column.ensures }) }
