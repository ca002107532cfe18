-- `why::look` meets its contract.
use mathlib.Core.Path.{refl, sym, ap, ◌∙◌}
use Rattle.std.proofs.lemmas.Result.{err_from_is_err_and}
use Rattle.refusals.proofs.Numbers.{number-some}
use Rattle.why.proofs.WhyLaws.{early-table}
use Rattle.why.proofs.Looking.{found-lengths, right-lengths, found-work, found-reason}
use Rattle.why.proofs.look.Goals as goal
use Rattle.why.proofs.look.Goals.{then-wrong_lengths-via-then-wrong_lengths, then-wrong_lengths-via-else-wrong_lengths+then-work-ne-WORK_WORDS, then-wrong_lengths-via-else-wrong_lengths+else-work-ne-WORK_WORDS+then-reason-ne-REASON_NUMBERS}

pub returns-in_err-table-clause-refusal : goal.returns-in_err-table-clause-refusal
returns-in_err-table-clause-refusal c =
    let a = c.args in
    let p = err_from_is_err_and c.from_residual.result c.from_residual.ensures.1 in
    let e = c.in_err-table.ensures.refusal in
    rw (p.1, p.2) (e ∙ sym (early-table a.t.now a.block.now a.map.now a.work.now a.place a.reason.now (λ z. number-some _ (e ∙ z))))

pub returns-then-wrong_lengths-clause-refusal : goal.returns-then-wrong_lengths-clause-refusal
returns-then-wrong_lengths-clause-refusal c =
    let a = c.args in
    let w = ap (λ r. r.now) c.in_ok-table.ensures.words in
    let k = rw w at c.in_ok-table.table.accepted in
    elim c.then-wrong_lengths.branch [
      | then-wrong_lengths-via-then-wrong_lengths u ↦
          found-lengths a.t.now a.block.now a.map.now a.work.now a.place a.reason.now _ _ _ k (sym c.wrong_lengths.ensures ∙ u.if-wrong_lengths.true)
      | then-wrong_lengths-via-else-wrong_lengths+then-work-ne-WORK_WORDS u ↦
          let r = right-lengths a.block.now a.map.now _ _ (sym c.wrong_lengths.ensures ∙ u.if-wrong_lengths.false) in
          found-work a.t.now a.block.now a.map.now a.work.now a.place a.reason.now 0 _ _ (sym k.accepted) refl k.places-are k.size_is r.0 r.1 u.if-work-ne-WORK_WORDS.true
      | then-wrong_lengths-via-else-wrong_lengths+else-work-ne-WORK_WORDS+then-reason-ne-REASON_NUMBERS u ↦
          let r = right-lengths a.block.now a.map.now _ _ (sym c.wrong_lengths.ensures ∙ u.if-wrong_lengths.false) in
          found-reason a.t.now a.block.now a.map.now a.work.now a.place a.reason.now 0 _ _ (sym k.accepted) refl k.places-are k.size_is r.0 r.1 u.if-work-ne-WORK_WORDS.false u.if-reason-ne-REASON_NUMBERS.true
    ]
