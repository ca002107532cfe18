-- `why::why_packets` meets its contract.
use Prim.Native.Nat.{ℕ}
use mathlib.Core.Path.{ap, ◌∙◌}
use lib.ListN.{replicate}
use Rattle.std.proofs.Common.{rules}
use Rattle.restore.specs.SavedLaws.{saved-is}
use Rattle.table.specs.Accepted.{few-places}
use Rattle.std.proofs.lemmas.Result.{err_from_is_err_and}
use Rattle.why.proofs.Answering.{explains-refused, explains-told}
use Rattle.why.proofs.Fitting.{fit-places, fits_all}
use Rattle.why.proofs.why_packets.Goals as goal

pub returns-in_err-full-clause-reason : goal.returns-in_err-full-clause-reason
returns-in_err-full-clause-reason c =
    let a = c.args in
    let fit = fits_all _ _ _ _ a.table.now.accepted a.block.now a.map.now a.work.now c.requires.fitting a.place c.requires.place.0 a.reason.now c.requires.place.1 in
    let p = err_from_is_err_and c.from_residual.result c.from_residual.ensures.1 in
    rw (p.1, p.2) (explains-refused a.table.now.words.now a.block.now a.map.now a.work.now a.place a.reason.now fit _ c.in_err-full.ensures)

pub returns-clause-reason : goal.returns-clause-reason
returns-clause-reason c =
    let a = c.args in
    let fit = fits_all _ _ _ _ a.table.now.accepted a.block.now a.map.now a.work.now c.requires.fitting a.place c.requires.place.0 a.reason.now c.requires.place.1 in
    let k = a.table.now.accepted in
    let lost = saved-is _ a.map.now _ a.table.now.places (few-places _ _ _ _ k) (fit-places _ _ _ _ k a.block.now a.map.now a.work.now c.requires.fitting) c.copy.ensures in
    explains-told a.table.now.words.now a.block.now a.map.now a.work.now a.place a.reason.now fit _ c.in_ok-full.ensures a.table.now.places a.table.now.accepted.places-are _ lost c.tell-told.ensures
    (c.fill.ensures.after (search rules) ∙ ap (λ (k : ℕ). replicate k 0) c.tell-told.auto.work) c.full_repair.auto.work
