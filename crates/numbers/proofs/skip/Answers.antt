-- `numbers::skip` meets its contract. The loop's invariant: from at to i there are only blanks and line ends.
use mathlib.Core.Path.{refl, sym, ◌∙◌}
use native.Mathlib.Omega.{arith}
use borrow.Author.Tests.{not-true, not-false}
use Rattle.numbers.proofs.Reading.{gap-on}
use Rattle.numbers.proofs.skip.Goals as goal

pub loop-i-init : goal.loop-i-init
loop-i-init c = refl

pub returns-then-not-is_gap : goal.returns-then-not-is_gap
returns-then-not-is_gap c = record { same = c.loop-i.invariant; stops = λ _. sym c.is_gap.ensures ∙ not-true _ c.if-not-is_gap.true-raw }

pub loop-i-preserved : goal.loop-i-preserved
loop-i-preserved c =
    let s = c.loop-i in
    let t = c.args.text.now in
    s.invariant ∙ gap-on t s.i (omega arith) (sym c.is_gap.ensures ∙ not-false _ c.if-not-is_gap.false-raw)

pub returns : goal.returns
returns c = record { same = c.loop-i.invariant; stops = λ h. absurd (omega arith) }
