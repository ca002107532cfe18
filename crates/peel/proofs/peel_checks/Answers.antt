-- `peel::peel_checks` meets its contract: `Going` holds at each turn.
use Prim.Native.Nat.{◌<◌}
use mathlib.Core.Path.{◌≡◌, sym}
use native.Mathlib.Omega.{arith}
use lib.ListN.{length}
use Rattle.table.specs.Accepted.{few-places, few-checks}
use Rattle.freed.specs.Locating.{located}
use Rattle.peel.proofs.Events.{go-start, go-took, go-aside, go-stop, place-says, choice-says, place-low, remove-ready}
use Rattle.peel.proofs.ScanBound.{calm-all, calm-place, calm-none}
use Rattle.peel.proofs.Turns.{in-flag}
use Rattle.peel.proofs.peel_checks.Goals as goal

pub loop-left-init : goal.loop-left-init
loop-left-init c =
    let p = c.requires in
    let ready = p.ready in
    record { going = go-start _ _ _ _ _ _ _ _ _ _ ready p.total.0; calm = calm-all _ _ ready.counts }

pub pick-event-requires : goal.pick-event-requires
pick-event-requires c =
    let s = c.loop-left.invariant in
    let z = s.going.size in
    record { ready = s.going.ready; live = omega arith; calm = s.calm }

pub overflow_cast-order : goal.overflow_cast-order
overflow_cast-order c = let r : (c.in-Took.j < 512) × (c.in-Took.p < 1024) × (c.loop-left.taken < length c.loop-left.order) × (c.loop-left.taken < length c.loop-left.owns) = (let y = place-says _ _ c.pick-event.ensures c.in-Took.is in let f = (in-flag _ _ _ y.pick.member).0 in let low = place-low y in let s = c.loop-left.invariant in let sum = s.going.sum in let order = c.loop-left.auto.order in let owns = c.loop-left.auto.owns in let p = c.requires in let few = few-checks _ _ _ _ c.args.located.now.table.accepted in let narrow = few-places _ _ _ _ c.args.located.now.table.accepted in let total = p.total.1 in let room = p.room in let less = c.loop-left-test.true in (omega arith, omega arith, omega arith, omega arith)) in omega arith

pub overflow_cast-owns : goal.overflow_cast-owns
overflow_cast-owns c = let r : (c.in-Took.j < 512) × (c.in-Took.p < 1024) × (c.loop-left.taken < length c.loop-left.order) × (c.loop-left.taken < length c.loop-left.owns) = (let y = place-says _ _ c.pick-event.ensures c.in-Took.is in let f = (in-flag _ _ _ y.pick.member).0 in let low = place-low y in let s = c.loop-left.invariant in let sum = s.going.sum in let order = c.loop-left.auto.order in let owns = c.loop-left.auto.owns in let p = c.requires in let few = few-checks _ _ _ _ c.args.located.now.table.accepted in let narrow = few-places _ _ _ _ c.args.located.now.table.accepted in let total = p.total.1 in let room = p.room in let less = c.loop-left-test.true in (omega arith, omega arith, omega arith, omega arith)) in omega arith

pub overflow_add-p : goal.overflow_add-p
overflow_add-p c = let r : (c.in-Took.j < 512) × (c.in-Took.p < 1024) × (c.loop-left.taken < length c.loop-left.order) × (c.loop-left.taken < length c.loop-left.owns) = (let y = place-says _ _ c.pick-event.ensures c.in-Took.is in let f = (in-flag _ _ _ y.pick.member).0 in let low = place-low y in let s = c.loop-left.invariant in let sum = s.going.sum in let order = c.loop-left.auto.order in let owns = c.loop-left.auto.owns in let p = c.requires in let few = few-checks _ _ _ _ c.args.located.now.table.accepted in let narrow = few-places _ _ _ _ c.args.located.now.table.accepted in let total = p.total.1 in let room = p.room in let less = c.loop-left-test.true in (omega arith, omega arith, omega arith, omega arith)) in omega arith

pub remove-top-requires : goal.remove-top-requires
remove-top-requires c =
    let y = place-says _ _ c.pick-event.ensures c.in-Took.is in
    let p = c.requires in
    let ready = c.loop-left.invariant.going.ready in
    let d = remove-ready (located c.args.located.now.table.accepted c.args.located.now.starts_at) ready in
    record { counts = sym ready.counts; ready = d.1; live = y.pick.member; calm = calm-place _ _ ready.counts ready.tally (place-low y) y.top }

pub overflow_cast-aside : goal.overflow_cast-aside
overflow_cast-aside c = let r : (c.in-Aside.j < 512) × (c.loop-left.put < length c.loop-left.aside) = (let y = choice-says _ c.pick-event.ensures c.in-Aside.is in let f = (in-flag _ _ _ y.pick.member).0 in let s = c.loop-left.invariant in let sum = s.going.sum in let aside = c.loop-left.auto.aside in let p = c.requires in let few = few-checks _ _ _ _ c.args.located.now.table.accepted in let total = p.total.1 in let room = p.room in let less = c.loop-left-test.true in (omega arith, omega arith)) in omega arith

pub remove-top-requires-in-Aside : goal.remove-top-requires-in-Aside
remove-top-requires-in-Aside c =
    let y = choice-says _ c.pick-event.ensures c.in-Aside.is in
    let p = c.requires in
    let ready = c.loop-left.invariant.going.ready in
    let d = remove-ready (located c.args.located.now.table.accepted c.args.located.now.starts_at) ready in
    record { counts = sym ready.counts; ready = d.1; live = y.pick.member; calm = calm-none _ ready.counts ready.tally y.top }

pub loop-left-preserved-in-Took : goal.loop-left-preserved-in-Took
loop-left-preserved-in-Took c =
    let s = c.loop-left.invariant in
    let sum = s.going.sum in
    let p = c.requires in
    let total = p.total.1 in
    let room = p.room in
    let y = place-says _ _ c.pick-event.ensures c.in-Took.is in
    record { going = go-took s.going c.loop-left-test.true _ _ y c.remove-top.ensures.removed (omega arith) (omega arith); calm = c.remove-top.ensures.calm }

pub loop-left-preserved : goal.loop-left-preserved
loop-left-preserved c =
    let s = c.loop-left.invariant in
    let sum = s.going.sum in
    let p = c.requires in
    let total = p.total.1 in
    let room = p.room in
    let y = choice-says _ c.pick-event.ensures c.in-Aside.is in
    record { going = go-aside s.going c.loop-left-test.true _ y c.remove-top-in-Aside.ensures.removed (omega arith); calm = c.remove-top-in-Aside.ensures.calm }

pub returns : goal.returns
returns c =
    let e : c.loop-left._left ≡ 0 = omega arith in
    go-stop (rw e at c.loop-left.invariant.going)
