-- `repair::repair` meets its contract.
use mathlib.Core.Path.{ap}
use Rattle.std.proofs.lemmas.Result.{err_from_is_err_and}
use Rattle.repair.proofs.Answering.{answer-table, answer-lengths, answer-byte}
use Rattle.repair.proofs.repair.Goals as goal

pub returns-in_err-table : goal.returns-in_err-table
returns-in_err-table c =
    let p = err_from_is_err_and c.from_residual.result c.from_residual.ensures.1 in
    rw (p.1, p.2) (answer-table c.args.t.now c.args.block.now c.args.map.now _ c.in_err-table.ensures.refusal)

pub returns-then-wrong_lengths : goal.returns-then-wrong_lengths
returns-then-wrong_lengths c =
    let w = ap (λ r. r.now) c.in_ok-table.ensures.words in
    let k = rw w at c.in_ok-table.table.accepted in
    answer-lengths c.args.t.now c.args.block.now c.args.map.now _ _ _ k _ c.wrong_lengths.ensures c.if-wrong_lengths.true

pub returns-then-over : goal.returns-then-over
returns-then-over c =
    let w = ap (λ r. r.now) c.in_ok-table.ensures.words in
    let k = rw w at c.in_ok-table.table.accepted in
    answer-byte c.args.t.now c.args.block.now c.args.map.now _ _ _ k _ c.wrong_lengths.ensures c.if-wrong_lengths.false _ c.over.ensures c.if-over.true
