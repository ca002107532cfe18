-- `full::decide` meets its contract.
use mathlib.Core.Path.{sym, ◌∙◌}
use Rattle.full.proofs.Deciding.{none-lost, zero-lost, solved, contradicted}
use Rattle.full.proofs.decide.Goals as goal

pub solve-requires-clause-known : goal.solve-requires-clause-known
solve-requires-clause-known c =
    let a = c.args in
    let done = c.restore_packets.ensures in
    let holds = sym c.is_ok.ensures.value ∙ c.if-is_ok.true in
    (none-lost _ _ _ _ a.table.now.accepted a.block.now a.map.now c.requires.0 _ _ _ done holds, zero-lost _ _ _ _ a.table.now.accepted a.block.now a.map.now c.requires.0 _ _ _ done holds)

pub returns-then-is_ok : goal.returns-then-is_ok
returns-then-is_ok c =
    let a = c.args in
    let holds = sym c.is_ok.ensures.value ∙ c.if-is_ok.true in
    rw c.is_ok-then-is_ok.ensures.value (solved _ _ _ _ a.table.now.accepted a.block.now a.map.now c.requires.0 _ _ _ c.restore_packets.ensures holds _ _ _ c.solve.ensures)

pub returns-else-is_ok : goal.returns-else-is_ok
returns-else-is_ok c =
    let a = c.args in
    contradicted _ _ _ _ a.table.now.accepted a.block.now a.map.now c.requires.0 _ _ _ c.restore_packets.ensures (sym c.is_ok.ensures.value ∙ c.if-is_ok.false) _ c.if-is_ok.false
