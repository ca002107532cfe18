-- `plan_text::put_steps` meets its contract: the lines of the steps, one after the other.
use Rattle.std.proofs.Common.{drop}
use Rattle.plan.specs.Step.{unpack_all}
use Rattle.text.specs.LinesLaws.{Left}
use Rattle.plan_text.specs.PlanText.{step_lines}
use Rattle.plan_text.proofs.put_steps.Given as goal

abbrev pub invariant-loop-number : goal.invariant-loop-number
invariant-loop-number l = Left l.initial.out l.initial.end (step_lines (unpack_all l.numbers)) l.out l.end (step_lines (unpack_all (drop l.number-index l.numbers)))
