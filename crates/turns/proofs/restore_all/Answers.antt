-- `turns::restore_all` meets its contract.
use Rattle.table.specs.Table.{checks}
use Rattle.turns.proofs.Spending.{spent-turn}
use Rattle.turns.proofs.Ordering.{tracked-start, lowest-ready, walk-ready, tracked-turn}
use Rattle.table.specs.Accepted.{few-places}
use Rattle.turns.proofs.Turning.{lost-place-in, lost-place, going_start, going_end, going-small, none-next, next_low, next_one, next-some, next-light, next-turn, next-fewer, next-packets, next-long}
use mathlib.Core.Path.{refl, sym, ap, ◌∙◌}
use native.Mathlib.Omega.{arith}
use lib.ListN.{set}
use Rattle.turns.proofs.restore_all.Goals as goal

pub returns : goal.returns
returns c =
    let a = c.args in
    let k = a.located.now.table.accepted in
    let s = c.loop-j in
    let number = lowest-ready _ _ _ _ k s.map s.count s.low s.invariant.1 _ c.in_default.ensures in
    (going_end _ _ _ _ _ _ _ _ c.requires.3 (few-places _ _ _ _ k) s.invariant.0 (none-next _ _ _ _ k s.map _ number refl), s.invariant.1.counted, s.invariant.2)

pub restore_one-p-requires : goal.restore_one-p-requires
restore_one-p-requires c =
    let a = c.args in
    let k = a.located.now.table.accepted in
    let p = c.requires in
    let s = c.loop-j in
    let found = c.in-Some.ensures.1 in
    let number = lowest-ready _ _ _ _ k s.map s.count s.low s.invariant.1 _ found in
    let more = c.in-Some.ensures.0 in
    let is = c.check-places.ensures in
    let one = next_one _ _ _ _ k s.map _ number more _ is in
    record { given = record { below = next_low _ _ _ _ k s.map _ number more _ is; bytes = s.invariant.0.bytes }; map = s.invariant.0.places; one = one }

pub offset_bounds-head-p : goal.offset_bounds-head-p
offset_bounds-head-p c =
    let a = c.args in
    let k = a.located.now.table.accepted in
    let p = c.requires in
    let s = c.loop-j in
    let found = c.in-Some.ensures.1 in
    let number = lowest-ready _ _ _ _ k s.map s.count s.low s.invariant.1 _ found in
    let more = c.in-Some.ensures.0 in
    let is = c.check-places.ensures in
    let one = next_one _ _ _ _ k s.map _ number more _ is in
    let r = c.restore_one-p.ensures in
    let run = c.check-places.result.now in
    let in-n = lost-place-in s.map run _ _ s.invariant.0.places one r.place in
    omega (arith, in-n, few-places _ _ _ _ k)

pub bounds-head-p : goal.bounds-head-p
bounds-head-p c =
    let a = c.args in
    let k = a.located.now.table.accepted in
    let p = c.requires in
    let s = c.loop-j in
    let found = c.in-Some.ensures.1 in
    let number = lowest-ready _ _ _ _ k s.map s.count s.low s.invariant.1 _ found in
    let more = c.in-Some.ensures.0 in
    let is = c.check-places.ensures in
    let one = next_one _ _ _ _ k s.map _ number more _ is in
    let r = c.restore_one-p.ensures in
    let run = c.check-places.result.now in
    let in-n = lost-place-in s.map run _ _ s.invariant.0.places one r.place in
    omega (arith, in-n, p.0.room)

pub walk-low-requires : goal.walk-low-requires
walk-low-requires c =
    let a = c.args in
    let k = a.located.now.table.accepted in
    let p = c.requires in
    let s = c.loop-j in
    let found = c.in-Some.ensures.1 in
    let number = lowest-ready _ _ _ _ k s.map s.count s.low s.invariant.1 _ found in
    let more = c.in-Some.ensures.0 in
    let is = c.check-places.ensures in
    let one = next_one _ _ _ _ k s.map _ number more _ is in
    let r = c.restore_one-p.ensures in
    let run = c.check-places.result.now in
    let in-n = lost-place-in s.map run _ _ s.invariant.0.places one r.place in
    walk-ready _ _ _ _ k s.map s.count s.low s.invariant.1 _ found a.head.now a.next.now a.owner.now p.0 _ in-n (lost-place s.map run _ one r.place) _ c.from.ensures

pub bounds-used-j : goal.bounds-used-j
bounds-used-j c =
    let a = c.args in
    let k = a.located.now.table.accepted in
    let p = c.requires in
    let s = c.loop-j in
    let found = c.in-Some.ensures.1 in
    let number = lowest-ready _ _ _ _ k s.map s.count s.low s.invariant.1 _ found in
    let more = c.in-Some.ensures.0 in
    let is = c.check-places.ensures in
    let one = next_one _ _ _ _ k s.map _ number more _ is in
    omega (arith, more, s.invariant.2.room)

pub overflow_sub-adds : goal.overflow_sub-adds
overflow_sub-adds c =
    let a = c.args in
    let k = a.located.now.table.accepted in
    let p = c.requires in
    let s = c.loop-j in
    let found = c.in-Some.ensures.1 in
    let number = lowest-ready _ _ _ _ k s.map s.count s.low s.invariant.1 _ found in
    let more = c.in-Some.ensures.0 in
    let is = c.check-places.ensures in
    let one = next_one _ _ _ _ k s.map _ number more _ is in
    omega (arith, next-some _ _ _ _ k s.map _ number more _ is)

pub overflow_add-adds : goal.overflow_add-adds
overflow_add-adds c =
    let a = c.args in
    let k = a.located.now.table.accepted in
    let p = c.requires in
    let s = c.loop-j in
    let found = c.in-Some.ensures.1 in
    let number = lowest-ready _ _ _ _ k s.map s.count s.low s.invariant.1 _ found in
    let more = c.in-Some.ensures.0 in
    let is = c.check-places.ensures in
    let one = next_one _ _ _ _ k s.map _ number more _ is in
    omega (
      arith,
      going-small a.located.now.table.places a.located.now.table.size (checks a.located.now.table.words.now) a.block.now a.map.now _ _ _ p.3 (few-places _ _ _ _ k) s.invariant.0,
      next-light _ _ _ _ k s.map _ number more _ is,
    )

pub loop-j-smaller : goal.loop-j-smaller
loop-j-smaller c =
    let a = c.args in
    let k = a.located.now.table.accepted in
    let p = c.requires in
    let s = c.loop-j in
    let found = c.in-Some.ensures.1 in
    let number = lowest-ready _ _ _ _ k s.map s.count s.low s.invariant.1 _ found in
    let more = c.in-Some.ensures.0 in
    let is = c.check-places.ensures in
    let one = next_one _ _ _ _ k s.map _ number more _ is in
    next-fewer _ _ _ _ k s.map _ number more _ is a.block.now a.map.now _ _ s.invariant.0 _ _ c.restore_one-p.ensures.turn

pub loop-j-preserved : goal.loop-j-preserved
loop-j-preserved c =
    let a = c.args in
    let k = a.located.now.table.accepted in
    let p = c.requires in
    let s = c.loop-j in
    let found = c.in-Some.ensures.1 in
    let number = lowest-ready _ _ _ _ k s.map s.count s.low s.invariant.1 _ found in
    let more = c.in-Some.ensures.0 in
    let is = c.check-places.ensures in
    let one = next_one _ _ _ _ k s.map _ number more _ is in
    let r = c.restore_one-p.ensures in
    let run = c.check-places.result.now in
    let in-n = lost-place-in s.map run _ _ s.invariant.0.places one r.place in (
      next-turn _ _ _ _ k s.map _ number more _ is a.block.now a.map.now _ _ s.invariant.0 _ _ r.turn,
      tracked-turn _ _ _ _ k s.map s.count s.low s.invariant.1 _ found a.head.now a.next.now a.owner.now p.0 _ in-n (lost-place s.map run _ one r.place) _ c.from.ensures _ _ _ c.walk-low.ensures (r.turn.map_is ∙ ap (λ q. set s.map q 2) (sym r.place)),
      spent-turn _ _ _ _ k s.map s.block s.used s.invariant.2 _ more run is one (lost-place-in s.map run _ _ s.invariant.0.places one refl) (next-long _ _ _ _ k s.map _ number more _ is a.block.now a.map.now _ _ s.invariant.0 _ _ r.turn) _ _ (next-packets _ _ _ _ k s.map _ number more _ is a.block.now a.map.now _ _ s.invariant.0 _ _ r.turn) r.turn.map_is,
    )
