-- `listing::list_table` meets its contract: the refusal, or the text of the planner's own plan.
use mathlib.Core.Path.{refl}
use native.Mathlib.Omega.{arith}
use Rattle.table.specs.Accepted.{words}
use Rattle.text.specs.LinesLaws.{same_word}
use Rattle.plan_text.specs.PlanTextLaws.{refused-room}
use Rattle.listing.proofs.Tables.{own, refused-put, plan-adds, plan-fits, plan-put}
use Rattle.listing.proofs.list_table.Goals as goal

pub put_refused-requires : goal.put_refused-requires
put_refused-requires c = refused-room _ c.args.out.now c.requires

pub returns-in-Err : goal.returns-in-Err
returns-in-Err c = let e = refused-put c.args.table.now _ c.in-Err.ensures.answer in same_word (rw c.number.ensures e) c.put_refused.ensures

pub bounds-table-2 : goal.bounds-table-2
bounds-table-2 c =
    let p = c.in-Ok in let t = c.args.table.now in
    let long = words t _ refl (own t p.planned p.ensures.answer _ p.ensures.plan).accepted in
    omega arith

pub slice_bounds-plan-end : goal.slice_bounds-plan-end
slice_bounds-plan-end c = let p = c.in-Ok in (own c.args.table.now p.planned p.ensures.answer _ p.ensures.plan).within

pub invariant_of-plan : goal.invariant_of-plan
invariant_of-plan c = let p = c.in-Ok in record { formed = (own c.args.table.now p.planned p.ensures.answer _ p.ensures.plan).formed }

pub put_plan-requires : goal.put_plan-requires
put_plan-requires c =
    let a = c.args in
    let p = c.in-Ok in
    record {
      additions_value = plan-adds a.table.now p.planned p.ensures.answer _ p.ensures.plan;
      ones_in_bounds = plan-fits a.table.now p.planned p.ensures.answer _ p.ensures.plan c.from-s.ensures a.out.now c.requires;
    }

pub returns : goal.returns
returns c =
    let p = c.in-Ok in
    same_word (plan-put c.args.table.now p.planned p.ensures.answer _ p.ensures.plan c.from-s.ensures) c.put_plan.ensures
