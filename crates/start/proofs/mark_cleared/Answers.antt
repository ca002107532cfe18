-- `start::mark_cleared` meets its contract: the marks are those of the steps from i on.
use Rattle.std.proofs.Common.{◌-◌, arith}
use Rattle.plan.specs.LayoutLaws.{well}
use Rattle.start.proofs.MarkLaws.{step-in-front, step-below}
use Rattle.start.proofs.mark_cleared.Goals as goal

pub mark_step-requires : goal.mark_step-requires
mark_step-requires c =
    let w = c.args.plan.now.words.now in let l = c.loop-i in let q = c.steps_at-at in
    step-below w (well w c.args.plan.now.formed) q.result q.ensures _ (l.i - 1) (omega arith) c.decode.ensures (omega arith)

pub loop-i-preserved : goal.loop-i-preserved
loop-i-preserved c =
    let a = c.args in let w = a.plan.now.words.now in let l = c.loop-i in let q = c.steps_at-at in
    rw (← step-in-front w (well w a.plan.now.formed) q.result q.ensures _ a.steps l.i c.requires.steps c.loop-i-test.true l.auto.i c.decode.ensures)
    (c.mark_step.ensures _ l.invariant)
