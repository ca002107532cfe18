-- `full::full_repair` meets its contract.
use mathlib.Core.Path.{sym, ap, ◌∙◌}
use Rattle.std.proofs.lemmas.Result.{err_from_is_err_and}
use Rattle.full.proofs.Answering.{answer-table, answer-lengths, answer-work, answer-byte, fitting}
use Rattle.full.proofs.full_repair.Goals as goal
use Rattle.full.proofs.full_repair.Goals.{then-wrong_lengths-via-then-wrong_lengths, then-wrong_lengths-via-else-wrong_lengths+then-work-ne-WORK_WORDS}

pub returns-in_err-table : goal.returns-in_err-table
returns-in_err-table c =
    let p = err_from_is_err_and c.from_residual.result c.from_residual.ensures.1 in
    rw (p.1, p.2) (answer-table c.args.t.now c.args.block.now c.args.map.now c.args.work.now _ c.in_err-table.ensures.refusal)

pub returns-then-wrong_lengths : goal.returns-then-wrong_lengths
returns-then-wrong_lengths c =
    let a = c.args in
    let w = ap (λ r. r.now) c.in_ok-table.ensures.words in
    let k = rw w at c.in_ok-table.table.accepted in
    elim c.then-wrong_lengths.branch [
      | then-wrong_lengths-via-then-wrong_lengths u ↦ answer-lengths _ _ _ _ k a.block.now a.map.now a.work.now (sym c.wrong_lengths.ensures ∙ u.if-wrong_lengths.true)
      | then-wrong_lengths-via-else-wrong_lengths+then-work-ne-WORK_WORDS u ↦
          answer-work _ _ _ _ k a.block.now a.map.now a.work.now (sym c.wrong_lengths.ensures ∙ u.if-wrong_lengths.false) u.if-work-ne-WORK_WORDS.true
    ]

pub returns-then-over : goal.returns-then-over
returns-then-over c =
    let a = c.args in
    let w = ap (λ r. r.now) c.in_ok-table.ensures.words in
    let k = rw w at c.in_ok-table.table.accepted in
    answer-byte _ _ _ _ k a.block.now a.map.now a.work.now (sym c.wrong_lengths.ensures ∙ c.if-wrong_lengths.false) c.if-work-ne-WORK_WORDS.false (sym c.over.ensures ∙ c.if-over.true)

pub full_packets-requires : goal.full_packets-requires
full_packets-requires c =
    let a = c.args in
    let w = ap (λ r. r.now) c.in_ok-table.ensures.words in
    let k = rw w at c.in_ok-table.table.accepted in
    rw w (fitting _ _ _ _ k a.block.now a.map.now a.work.now (sym c.wrong_lengths.ensures ∙ c.if-wrong_lengths.false) c.if-work-ne-WORK_WORDS.false (sym c.over.ensures ∙ c.if-over.false))
