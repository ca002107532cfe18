-- `tracing::note_feeders` meets its contract: the places so far are noted.
use mathlib.Core.Path.{ap, ◌∙◌}
use native.Mathlib.Omega.{arith}
use lib.ListN.{get_or}
use Rattle.lists.specs.ListLaws.{all-at}
use Rattle.tracing.proofs.Feeding.{fed}
use Rattle.tracing.proofs.note_feeders.Goals as goal

pub bounds-owner-from : goal.bounds-owner-from
bounds-owner-from c = let b = all-at 0 c.requires.led.each c.loop-q.q-index c.loop-q-test.true in let e = c.from.ensures in omega arith

pub overflow_sub-o : goal.overflow_sub-o
overflow_sub-o c =
    let b = all-at 0 c.requires.led.each c.loop-q.q-index c.loop-q-test.true in
    let e = c.from-o.ensures ∙ ap (λ q. get_or c.args.owner.now q 0) c.from.ensures in
    omega arith

pub flip-requires : goal.flip-requires
flip-requires c =
    let b = all-at 0 c.requires.led.each c.loop-q.q-index c.loop-q-test.true in
    let e = c.from-o.ensures ∙ ap (λ q. get_or c.args.owner.now q 0) c.from.ensures in
    let l = c.loop-q.invariant.len in
    let r = c.clear.ensures.len in
    let room = c.requires.room in
    (omega arith, omega arith)

pub loop-q-preserved : goal.loop-q-preserved
loop-q-preserved c =
    let a = c.args in
    let e = c.from-o.ensures ∙ ap (λ q. get_or a.owner.now q 0) c.from.ensures in
    fed a.owner.now a.noted.now c.loop-q.q-index c.from-o.result c.loop-q-test.true e c.loop-q.invariant c.flip.ensures
