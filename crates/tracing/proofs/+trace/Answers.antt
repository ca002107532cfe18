-- The walk `trace` meets its contract: one call, from that for the used checks before the last.
use mathlib.Core.Path.{sym, ◌∙◌}
use Rattle.tracing.proofs.Walking.{walked-flip, walked-pass, walked_none}
use Rattle.tracing.proofs.+trace.Goals as goal
use Rattle.tracing.proofs.+trace.Goals.{then-has_place, else-has_place}

pub returns-after-has_place : goal.returns-after-has_place
returns-after-has_place t c =
    let a = c.args in
    let h = c.if-k-gt0.true in
    let b = c.has_place.ensures in
    let done = c.trace.ensures in
    elim c.if-has_place.branch [
      | then-has_place u ↦ walked-flip a.need.now a.feed.now a.k h (sym b ∙ u.if-has_place.true) u.add_from.ensures (rw u.need-is at done)
      | else-has_place u ↦ walked-pass a.need.now a.feed.now a.k h (sym b ∙ u.if-has_place.false) (rw u.need-is at done)
    ]

pub returns-else-k-gt0 : goal.returns-else-k-gt0
returns-else-k-gt0 t c = let a = c.args in walked_none a.need.now a.feed.now a.k c.if-k-gt0.false
