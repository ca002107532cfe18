-- `own_plan::plan_of` meets its contract, which is the planner's.
use Rattle.own_plan.specs.Own.{lent_work}
use Rattle.own_plan.proofs.plan_of.Goals as goal

pub returns : goal.returns
unfolding lent_work
returns c = let p = c.plan.ensures in record { answer = p.answer; plan = p.plan }
