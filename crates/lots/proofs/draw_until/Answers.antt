-- `draw_until` meets its contract.
use Rattle.std.proofs.Common.{sym, ◌∙◌}
use Rattle.lots.proofs.Seeking.{starts, passes, fails, ends}
use Rattle.lots.proofs.draw_until.Goals as goal

pub loop-value-init : goal.loop-value-init
loop-value-init g c = λ f h. starts c.args.draws.now.small

pub returns-then-passes-clause-sought : goal.returns-then-passes-clause-sought
returns-then-passes-clause-sought g c = λ f h.
    let d = c.in-Some.ensures in
    passes (c.loop-value.invariant f h) d (sym (h _ _ d.below c.passes.ensures) ∙ c.if-passes.true)

pub loop-value-preserved : goal.loop-value-preserved
loop-value-preserved g c = λ f h.
    let d = c.in-Some.ensures in
    fails (c.loop-value.invariant f h) d (sym (h _ _ d.below c.passes.ensures) ∙ c.if-passes.false)

pub returns-clause-sought : goal.returns-clause-sought
returns-clause-sought g c = λ f h.
    let n = c.in_default.ensures in
    rw (n.1, n.2) (ends n.0 (c.loop-value.invariant f h))
