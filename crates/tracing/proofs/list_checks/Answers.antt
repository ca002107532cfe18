-- `tracing::list_checks` meets its contract.
use mathlib.Core.Path.{ap, ◌∙◌}
use lib.ListN.{length}
use Rattle.bits.specs.Front.{front-is}
use Rattle.bits.specs.Row.{row}
use Rattle.reasons.specs.Reasons.{named}
use Rattle.reasons.specs.Trace.{trace}
use Rattle.reasons.specs.Noting.{bits_below}
use Rattle.tracing.proofs.list_checks.Goals as goal

pub returns-clause-list : goal.returns-clause-list
returns-clause-list c =
    let a = c.args in
    let k = length a.ids.now in
    front-is c.write_checks.ensures.list (ap (λ y. named (bits_below k y) a.ids.now) (c.trace.ensures.here ∙ ap (trace (row a.feed.now) k) c.note_feeders.ensures.here))
