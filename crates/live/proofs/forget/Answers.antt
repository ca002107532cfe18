-- `live::forget` meets its contract: so many places are marked.
use Rattle.std.proofs.Common.{refl, arith}
use Rattle.lists.specs.ListLaws.{all-at}
use Rattle.live.specs.TurnLaws.{marked_turn, not_yet}
use Rattle.live.proofs.forget.Goals as goal

pub bounds-count-p : goal.bounds-count-p
bounds-count-p c = let low = all-at 0 c.requires.places c.loop-p.p-index c.loop-p-test.true in let e = c.from-p.ensures in omega arith

pub bounds-count-p-in-loop-p : goal.bounds-count-p-in-loop-p
bounds-count-p-in-loop-p c = let low = all-at 0 c.requires.places c.loop-p.p-index c.loop-p-test.true in let e = c.from-p.ensures in omega arith

pub overflow_sub-count : goal.overflow_sub-count
overflow_sub-count c =
    let s = c.loop-p in
    let h = all-at 0 c.requires.live s.p-index c.loop-p-test.true in
    let q = not_yet c.requires.apart s.p-index c.loop-p-test.true _ c.from-p.ensures s.invariant.counts in
    let e = c.from-p.ensures in
    omega (arith, q, rw (← e) at h)

pub bounds-names-p : goal.bounds-names-p
bounds-names-p c = let low = all-at 0 c.requires.places c.loop-p.p-index c.loop-p-test.true in let e = c.from-p.ensures in omega arith

pub bounds-names-p-in-loop-p : goal.bounds-names-p-in-loop-p
bounds-names-p-in-loop-p c = let low = all-at 0 c.requires.places c.loop-p.p-index c.loop-p-test.true in let e = c.from-p.ensures in omega arith

pub loop-p-preserved : goal.loop-p-preserved
loop-p-preserved c =
    let p = c.requires in
    let low = all-at 0 p.places c.loop-p.p-index c.loop-p-test.true in
    let e = c.from-p.ensures in
    marked_turn p.apart c.loop-p.p-index c.loop-p-test.true _ e c.loop-p.invariant (omega arith) (omega (arith, p.names)) _ _ refl refl
