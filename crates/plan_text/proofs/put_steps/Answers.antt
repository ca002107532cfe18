-- `plan_text::put_steps` meets its contract: the lines of the steps, one after the other.
use Rattle.std.proofs.Common.{◌+◌, get_or, drop, arith}
use Rattle.plan.specs.Step.{unpack_all, unpack}
use Rattle.text.specs.LinesLaws.{left-all, left-room, left-next, left-none}
use Rattle.plan_text.specs.PlanText.{step_lines, number_text}
use Rattle.plan_text.proofs.Turns.{next-step, last_step}
use Rattle.plan_text.proofs.put_steps.Goals as goal

pub loop-number-init : goal.loop-number-init
loop-number-init c = left-all _ _ _ c.requires

pub put_number-end-requires : goal.put_number-end-requires
put_number-end-requires c =
    let s = c.loop-number in
    let w = c.args.numbers.now in
    left-room (number_text (unpack (get_or w s.number-index 0))) _ (next-step w s.number-index c.loop-number-test.true s.invariant)

pub loop-number-preserved : goal.loop-number-preserved
loop-number-preserved c =
    let s = c.loop-number in
    let w = c.args.numbers.now in
    left-next (step_lines (unpack_all (drop (s.number-index + 1) w))) c.put_number-end.ensures (next-step w s.number-index c.loop-number-test.true s.invariant)

pub returns : goal.returns
returns c = let s = c.loop-number in left-none (last_step c.args.numbers.now s.number-index (omega arith) s.invariant)
