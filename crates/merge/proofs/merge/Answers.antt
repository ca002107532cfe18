-- `merge::merge` meets its contract.
use mathlib.Core.Path.{ap}
use Rattle.std.proofs.lemmas.Result.{err_from_is_err_and}
use Rattle.erasure.specs.Offered.{held}
use Rattle.merge.proofs.Answering.{answer-table, answer-first, answer-second, answer-third, answer-byte-first, answer-byte-second}
use Rattle.merge.proofs.merge.Goals as goal

pub returns-in_err-table : goal.returns-in_err-table
returns-in_err-table c =
    let a = c.args in
    let one = held a.block1.now a.map1.now in
    let two = held a.block2.now a.map2.now in
    let out = held a.block3.now a.map3.now in
    let p = err_from_is_err_and c.from_residual.result c.from_residual.ensures.1 in
    rw (p.1, p.2) (answer-table a.t.now one two out _ c.in_err-table.ensures.refusal)

pub returns-then-wrong_lengths : goal.returns-then-wrong_lengths
returns-then-wrong_lengths c =
    let a = c.args in
    let one = held a.block1.now a.map1.now in
    let two = held a.block2.now a.map2.now in
    let out = held a.block3.now a.map3.now in
    let w = ap (λ r. r.now) c.in_ok-table.ensures.words in
    let k = rw w at c.in_ok-table.table.accepted in
    answer-first a.t.now one two out _ _ _ k _ c.wrong_lengths.ensures c.if-wrong_lengths.true

pub returns-then-wrong_lengths-2 : goal.returns-then-wrong_lengths-2
returns-then-wrong_lengths-2 c =
    let a = c.args in
    let one = held a.block1.now a.map1.now in
    let two = held a.block2.now a.map2.now in
    let out = held a.block3.now a.map3.now in
    let w = ap (λ r. r.now) c.in_ok-table.ensures.words in
    let k = rw w at c.in_ok-table.table.accepted in
    answer-second a.t.now one two out _ _ _ k _ c.wrong_lengths-2.ensures c.if-wrong_lengths-2.true

pub returns-then-wrong_lengths-3 : goal.returns-then-wrong_lengths-3
returns-then-wrong_lengths-3 c =
    let a = c.args in
    let one = held a.block1.now a.map1.now in
    let two = held a.block2.now a.map2.now in
    let out = held a.block3.now a.map3.now in
    let w = ap (λ r. r.now) c.in_ok-table.ensures.words in
    let k = rw w at c.in_ok-table.table.accepted in
    answer-third a.t.now one two out _ _ _ k _ c.wrong_lengths-3.ensures c.if-wrong_lengths-3.true

pub returns-then-over : goal.returns-then-over
returns-then-over c =
    let a = c.args in
    let one = held a.block1.now a.map1.now in
    let two = held a.block2.now a.map2.now in
    let out = held a.block3.now a.map3.now in
    let w = ap (λ r. r.now) c.in_ok-table.ensures.words in
    let k = rw w at c.in_ok-table.table.accepted in
    answer-byte-first a.t.now one two out _ _ _ k _ _ _ c.wrong_lengths.ensures c.wrong_lengths-2.ensures c.wrong_lengths-3.ensures c.if-wrong_lengths.false c.if-wrong_lengths-2.false c.if-wrong_lengths-3.false _ c.over.ensures c.if-over.true

pub returns-then-over-2 : goal.returns-then-over-2
returns-then-over-2 c =
    let a = c.args in
    let one = held a.block1.now a.map1.now in
    let two = held a.block2.now a.map2.now in
    let out = held a.block3.now a.map3.now in
    let w = ap (λ r. r.now) c.in_ok-table.ensures.words in
    let k = rw w at c.in_ok-table.table.accepted in
    answer-byte-second a.t.now one two out _ _ _ k _ _ _ c.wrong_lengths.ensures c.wrong_lengths-2.ensures c.wrong_lengths-3.ensures c.if-wrong_lengths.false c.if-wrong_lengths-2.false c.if-wrong_lengths-3.false _ c.over-2.ensures c.if-over-2.true
