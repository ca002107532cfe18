-- `live::single` meets its contract: the rest of the scan decides.
use borrow.Author.Tests.{eq-eqb, ne_eqb}
use Rattle.live.specs.Live.{found}
use Rattle.live.proofs.Scanning.{scan-hit, scan-miss, scan-none}
use mathlib.Core.Path.{◌≡◌, refl, sym, ap, ◌∙◌}
use native.Mathlib.Omega.{arith}
use Rattle.live.proofs.single.Goals as goal

pub loop-p-init : goal.loop-p-init
loop-p-init c = (omega arith, refl)

pub loop-p-preserved : goal.loop-p-preserved
loop-p-preserved c =
    let s = c.loop-p in
    (omega arith, s.invariant.1 ∙ ap found (scan-miss s.p _ (omega arith) (ne_eqb _ _ c.if-count-p-eq1.false)))

pub returns-then-p-eq0 : goal.returns-then-p-eq0
returns-then-p-eq0 c =
    let s = c.loop-p in
    let e : s.p ≡ 0 = omega arith in
    sym (rw (e, scan-none) at s.invariant.1)

pub returns-then-count-p-eq1 : goal.returns-then-count-p-eq1
returns-then-count-p-eq1 c =
    let s = c.loop-p in
    sym (s.invariant.1 ∙ scan-hit s.p _ (omega arith) (eq-eqb _ _ c.if-count-p-eq1.true))
