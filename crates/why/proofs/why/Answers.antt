-- `why::why` meets its contract.
use mathlib.Core.Path.{sym, ap, ◌∙◌}
use Rattle.std.proofs.lemmas.Result.{err_from_is_err_and}
use Rattle.table.specs.Table.{places}
use Rattle.why.proofs.WhyLaws.{early-fits}
use Rattle.why.proofs.Answering.{explains-early}
use Rattle.why.proofs.Fitting.{passed-below}
use Rattle.why.proofs.why.Goals as goal

pub returns-in_err-table-clause-reason : goal.returns-in_err-table-clause-reason
returns-in_err-table-clause-reason c =
    let a = c.args in
    let p = err_from_is_err_and c.from_residual.result c.from_residual.ensures.1 in
    rw (p.1, p.2) (explains-early a.t.now a.block.now a.map.now a.work.now a.place a.reason.now _ c.in_err-table.ensures.refusal)

pub why_packets-requires : goal.why_packets-requires
why_packets-requires c =
    let a = c.args in
    let w = ap (λ r. r.now) c.in_ok-table.ensures.words in
    let k = c.in_ok-table.table.accepted in
    let f = early-fits a.t.now a.block.now a.map.now a.work.now a.place a.reason.now (sym c.in_ok-table.ensures.refusal) in
    record { fitting = rw w f.full; place = (passed-below f (k.places-are ∙ ap places w), f.room) }
