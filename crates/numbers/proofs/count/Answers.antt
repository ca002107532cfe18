-- `numbers::count` meets its contract.
use Rattle.std.proofs.Common.{arith, ◌∙◌}
use Rattle.numbers.proofs.Laws.{passed_start, passed-bad, passed_on, ends_next}
use Rattle.numbers.proofs.count.Goals as goal

pub loop-byte-init : goal.loop-byte-init
loop-byte-init c = (omega arith, omega arith, passed_start _)

pub returns-in_err-e : goal.returns-in_err-e
returns-in_err-e c =
    let s = c.loop-byte in
    c.from_residual.ensures ∙ passed-bad 7 s.invariant.2 (omega arith) s.invariant.0 c.in_err-e.ensures.digits (omega arith)

pub loop-byte-preserved : goal.loop-byte-preserved
loop-byte-preserved c =
    let s = c.loop-byte in
    let x = c.ends_here-k.ensures in
    let n = ends_next s.k s.d c.in_ok-e.e s.byte-index s.invariant.1 in
    (c.in_ok-e.ensures.few, omega arith, passed_on c.in_ok-e.e _ s.invariant.2 (omega arith) c.in_ok-e.ensures.digits c.in_ok-e.ensures.few x)
