-- `planner::plan` meets its contract: the causes in their order.
use Rattle.std.proofs.Common.{◌≡◌, refl, sym, ap, rules}
use Rattle.refusals.proofs.Numbers.{number-some}
use Rattle.refusals.specs.Refusals.{number_of}
use Rattle.table.specs.Table.{refusal}
use Rattle.planning.specs.Planning.{planning_answer_of, refused_by}
use Rattle.planning.specs.Refusals.{by-table, short-plan, wrong-work, outcome-of}
use Rattle.planner.proofs.plan.Goals as goal

pub returns-in_err-table : goal.returns-in_err-table
returns-in_err-table c =
    let t = c.args.t.now in
    let P = c.args.plan.now in
    let W = c.args.work.now in
    let r = c.in_err-table.field-0.0 in
    let same : planning_answer_of c.from_residual.result ≡ refused_by (number_of r) = search rules in
    let q = outcome-of t P W (by-table t P W (number_of r) c.in_err-table.ensures.refusal (number-some r)) same in
    record { answer = q.0; plan = q.1.0; work = q.1.1 }

pub returns-then-plan-lt-LEAST_PLAN : goal.returns-then-plan-lt-LEAST_PLAN
returns-then-plan-lt-LEAST_PLAN c =
    let t = c.args.t.now in
    let P = c.args.plan.now in
    let W = c.args.work.now in
    let e : refusal t ≡ 0 = sym c.in_ok-table.ensures.refusal in
    let q = outcome-of t P W (short-plan t P W e c.if-plan-lt-LEAST_PLAN.true) refl in
    record { answer = q.0; plan = q.1.0; work = q.1.1 }

pub returns-then-work-ne-WORK_WORDS : goal.returns-then-work-ne-WORK_WORDS
returns-then-work-ne-WORK_WORDS c =
    let t = c.args.t.now in
    let P = c.args.plan.now in
    let W = c.args.work.now in
    let e : refusal t ≡ 0 = sym c.in_ok-table.ensures.refusal in
    let q = outcome-of t P W (wrong-work t P W e c.if-plan-lt-LEAST_PLAN.false c.if-work-ne-WORK_WORDS.true) refl in
    record { answer = q.0; plan = q.1.0; work = q.1.1 }

pub returns : goal.returns
returns c = let same = ap (λ r. r.now) c.in_ok-table.ensures.words in rw same at c.plan_table.ensures
