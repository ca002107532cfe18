-- `write_alist` meets its contract: the table's refusal, or the rest.
use Rattle.std.proofs.lemmas.Result.{err_from_is_err_and}
use Rattle.refusals.proofs.Numbers.{number-some}
use Rattle.alist_write.proofs.Whole.{answer-refused}
use Rattle.alist_write.proofs.write_alist.Goals as goal

pub returns-in_err-table : goal.returns-in_err-table
returns-in_err-table c =
    let n = c.in_err-table.ensures.refusal in
    let x = answer-refused c.args.t.now c.args.text.now _ n (number-some _) in
    let p = err_from_is_err_and c.from_residual.result c.from_residual.ensures.1 in
    rw (p.1, p.2) (record { answer = x.0; text = x.1 })

pub returns : goal.returns
returns c = rw c.in_ok-table.ensures.words at c.write.ensures
