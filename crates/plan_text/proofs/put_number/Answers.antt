-- `plan_text::put_number` meets its contract: a number that is no step has no line.
use mathlib.Core.Path.{sym, ◌∙◌}
use native.Mathlib.Omega.{arith}
use Rattle.plan.specs.Step.{unpack}
use Rattle.text.specs.LinesLaws.{nothing_put}
use Rattle.plan_text.proofs.Turns.{is-step, no_step}
use Rattle.plan_text.proofs.put_number.Goals as goal

pub put_step-requires : goal.put_step-requires
put_step-requires c = rw (is-step (unpack c.args.word) _ (sym c.unpack.ensures ∙ c.in-Some.is)) at c.requires

pub returns-in-Some : goal.returns-in-Some
returns-in-Some c = rw (is-step (unpack c.args.word) _ (sym c.unpack.ensures ∙ c.in-Some.is)) c.put_step.ensures

pub returns-in-None : goal.returns-in-None
returns-in-None c =
    let e = no_step (unpack c.args.word) c.unpack.ensures c.in-None.is in
    rw e (nothing_put _ _ (omega (arith, rw e at c.requires)))
