-- `running::run` meets its contract: the slots are what the steps so far give, and the count is theirs.
use Rattle.std.proofs.Common.{◌≡◌, ◌∙◌, ◌<◌, ◌≤◌, arith}
use Rattle.plan.specs.Layout.{step_count, steps_of}
use Rattle.plan.specs.LayoutLaws.{well}
use Rattle.running.proofs.RunLaws.{adds-within, bool-number, ran-none, skip-most, found, run_at, run-within, run-goes, ran-run}
use Rattle.running.proofs.run.Goals as goal

pub loop-i-init : goal.loop-i-init
loop-i-init c = record { ran = ran-none _ _ _ _; upto = omega arith }

pub add_run-count-requires-clause-run : goal.add_run-count-requires-clause-run
add_run-count-requires-clause-run c =
    let a = c.args in let p = c.requires in let w = a.plan.now.words.now in let f = well w a.plan.now.formed in let l = c.loop-i in let q = c.steps_at-at in let last = c.min in
    let r = found w q.result l.i c.decode-x.ensures c.target-to.ensures c.is_clear-fresh.ensures (c.from.ensures ∙ bool-number c.is_clear-fresh.result) in
    let few = skip-most c.is_clear-fresh.result in
    let more : l.i < last.result = omega arith in
    let all : last.result ≤ step_count w = omega arith in
    rw c.places-n.ensures (run_at w f q.result q.ensures l.i last.result more all r a.s _ _ (l.auto.block ∙ p.lent.block) (l.auto.scratch ∙ p.lent.scratch))

pub overflow_add-additions : goal.overflow_add-additions
overflow_add-additions c =
    let a = c.args in let p = c.requires in let w = a.plan.now.words.now in let f = well w a.plan.now.formed in let l = c.loop-i in let q = c.steps_at-at in let last = c.min in
    let r = found w q.result l.i c.decode-x.ensures c.target-to.ensures c.is_clear-fresh.ensures (c.from.ensures ∙ bool-number c.is_clear-fresh.result) in
    let few = skip-most c.is_clear-fresh.result in
    let more : l.i < last.result = omega arith in
    let all : last.result ≤ step_count w = omega arith in
    let run = c.add_run-count in let k = f.counts in
    omega (arith, run-within w f q.result q.ensures l.i last.result more all r _ run.ensures.list.count, l.invariant.ran.count, adds-within l.i (steps_of w))

pub overflow_add-i : goal.overflow_add-i
overflow_add-i c =
    let a = c.args in let p = c.requires in let w = a.plan.now.words.now in let f = well w a.plan.now.formed in let l = c.loop-i in let q = c.steps_at-at in let last = c.min in
    let r = found w q.result l.i c.decode-x.ensures c.target-to.ensures c.is_clear-fresh.ensures (c.from.ensures ∙ bool-number c.is_clear-fresh.result) in
    let few = skip-most c.is_clear-fresh.result in
    let more : l.i < last.result = omega arith in
    let all : last.result ≤ step_count w = omega arith in
    let run = c.add_run-count in let k = f.counts in
    omega (arith, run-within w f q.result q.ensures l.i last.result more all r _ run.ensures.list.count)

pub loop-i-smaller : goal.loop-i-smaller
loop-i-smaller c =
    let a = c.args in let p = c.requires in let w = a.plan.now.words.now in let f = well w a.plan.now.formed in let l = c.loop-i in let q = c.steps_at-at in let last = c.min in
    let r = found w q.result l.i c.decode-x.ensures c.target-to.ensures c.is_clear-fresh.ensures (c.from.ensures ∙ bool-number c.is_clear-fresh.result) in
    let few = skip-most c.is_clear-fresh.result in
    let more : l.i < last.result = omega arith in
    let all : last.result ≤ step_count w = omega arith in
    let run = c.add_run-count in let k = f.counts in
    omega (arith, run-goes w f q.result q.ensures l.i last.result more all r _ run.ensures.list.count, run-within w f q.result q.ensures l.i last.result more all r _ run.ensures.list.count)

pub loop-i-preserved : goal.loop-i-preserved
loop-i-preserved c =
    let a = c.args in let p = c.requires in let w = a.plan.now.words.now in let f = well w a.plan.now.formed in let l = c.loop-i in let q = c.steps_at-at in let last = c.min in
    let r = found w q.result l.i c.decode-x.ensures c.target-to.ensures c.is_clear-fresh.ensures (c.from.ensures ∙ bool-number c.is_clear-fresh.result) in
    let few = skip-most c.is_clear-fresh.result in
    let more : l.i < last.result = omega arith in
    let all : last.result ≤ step_count w = omega arith in
    let run = c.add_run-count in let k = f.counts in
    record {
      ran = ran-run w f q.result q.ensures l.i last.result more all r _ run.ensures.list.count l.invariant.ran (rw c.places-n.ensures at run.ensures.slot);
      upto = omega (arith, run-within w f q.result q.ensures l.i last.result more all r _ run.ensures.list.count);
    }

pub returns : goal.returns
returns c = let z : c.loop-i.i ≡ c.args.steps = omega arith in rw z at c.loop-i.invariant.ran
