-- `planner::plan_table` meets its contract: the checks chosen, and the plan or refusal 6.
use Rattle.std.proofs.Common.{refl, arith}
use Rattle.table.specs.Accepted.{few-checks}
use Rattle.planning.specs.Refusals.{many-aside, served, gap_is, outcome-as}
use Rattle.planner.proofs.plan_table.Goals as goal

pub fill_starts-requires : goal.fill_starts-requires
fill_starts-requires c = let f = few-checks _ _ _ _ c.args.table.now.accepted in omega arith

pub returns-then-c-gt-MOST_ASIDE : goal.returns-then-c-gt-MOST_ASIDE
returns-then-c-gt-MOST_ASIDE c =
    let p = c.requires in
    let t = c.args.table.now.words.now in
    let P = c.args.plan.now in
    let W = c.args.work.now in
    let gq = gap_is t in
    let g = c.choose_checks-c.ensures.choice.gap in
    let h = c.if-c-gt-MOST_ASIDE.true in
    let q = outcome-as t P W (many-aside t P W c.args.table.now.accepted.accepted p.room p.work (omega arith)) refl refl c.choose_checks-c.ensures.work in
    record { answer = q.0; plan = q.1.0; work = q.1.1 }

pub returns : goal.returns
returns c =
    let p = c.requires in
    let t = c.args.table.now.words.now in
    let P = c.args.plan.now in
    let W = c.args.work.now in
    let gq = gap_is t in
    let g = c.choose_checks-c.ensures.choice.gap in
    let h = c.if-c-gt-MOST_ASIDE.false in
    let q = outcome-as t P W (served t P W c.args.table.now.accepted.accepted p.room p.work (omega arith)) c.write_out.ensures.answer c.write_out.ensures.plan c.choose_checks-c.ensures.work in
    record { answer = q.0; plan = q.1.0; work = q.1.1 }
