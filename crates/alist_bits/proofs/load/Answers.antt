-- `load` meets its contract: check after check.
use mathlib.Core.Path.{◌≡◌, refl, subst, ◌∙◌}
use native.Mathlib.Omega.{arith}
use Rattle.table.specs.Accepted.{by_number, few-checks, has-weights, check-is, check-fits, places-wide, few-places, few_words, offset-more}
use Rattle.table.specs.SumLaws.{places-low}
use Rattle.table.specs.ChecksLaws.{offset-none}
use Rattle.alist_bits.proofs.Turning.{Turned, turned_none, turned_more, Listed, listed-none, listed_more, loaded}
use Rattle.alist_bits.proofs.load.Goals as goal

pub overflow_add-at : goal.overflow_add-at
overflow_add-at c = let f = few-checks _ _ _ _ (by_number _ _ _ _ c.args.table.now.accepted) in omega arith

pub loop-j-init : goal.loop-j-init
loop-j-init c =
    let a = c.args in
    (offset-none a.table.now.words.now a.table.now.checks, refl, refl, turned_none a.table.now.words.now a.columns.now c.requires.zeros, listed-none a.table.now.words.now a.rows.now)

pub overflow_add-j : goal.overflow_add-j
overflow_add-j c = let f = few-checks _ _ _ _ (by_number _ _ _ _ c.args.table.now.accepted) in omega arith

pub offset_bounds-table-j : goal.offset_bounds-table-j
offset_bounds-table-j c = let f = few-checks _ _ _ _ (by_number _ _ _ _ c.args.table.now.accepted) in omega arith

pub bounds-table-j : goal.bounds-table-j
bounds-table-j c = let f = has-weights _ _ _ _ (by_number _ _ _ _ c.args.table.now.accepted) in omega arith

pub run-places-requires : goal.run-places-requires
run-places-requires c =
    let s = c.loop-j in
    check-fits _ _ _ _ (by_number _ _ _ _ c.args.table.now.accepted) s.j c.loop-j-test.true s.at _ s.invariant.0 c.from-weight.ensures

pub load-requires : goal.load-requires
load-requires c =
    let s = c.loop-j in
    let k = by_number _ _ _ _ c.args.table.now.accepted in
    let f = few-checks _ _ _ _ k in
    let l = s.invariant.2 in
    let r = c.requires.room.1 in
    let p = places-wide _ _ _ _ k s.j c.loop-j-test.true s.at _ s.invariant.0 c.from-weight.ensures 1024 (few-places _ _ _ _ k) in
    (omega arith, rw c.run-places.ensures (places-low p))

pub turn_check-requires : goal.turn_check-requires
turn_check-requires c =
    let s = c.loop-j in
    let k = by_number _ _ _ _ c.args.table.now.accepted in
    let f = few-checks _ _ _ _ k in
    let p = places-wide _ _ _ _ k s.j c.loop-j-test.true s.at _ s.invariant.0 c.from-weight.ensures 1024 (few-places _ _ _ _ k) in
    (s.invariant.1 ∙ c.requires.room.0, omega arith, rw c.run-places.ensures (places-low p))

pub overflow_add-at-in-loop-j : goal.overflow_add-at-in-loop-j
overflow_add-at-in-loop-j c =
    let k = by_number _ _ _ _ c.args.table.now.accepted in
    let s = c.loop-j in
    let f = few_words _ _ _ _ k in
    let p = check-fits _ _ _ _ k s.j c.loop-j-test.true s.at _ s.invariant.0 c.from-weight.ensures in
    omega arith

pub loop-j-preserved : goal.loop-j-preserved
loop-j-preserved c =
    let a = c.args in
    let k = by_number _ _ _ _ c.args.table.now.accepted in
    let s = c.loop-j in
    let w = c.from-weight.ensures in
    let f = few-checks _ _ _ _ k in
    let e = check-is _ _ _ _ k s.j c.loop-j-test.true s.at _ s.invariant.0 w in
    let x = rw c.run-places.ensures at c.load.ensures in
    let y = rw c.run-places.ensures at c.turn_check.ensures in
    (offset-more a.table.now.words.now a.table.now.checks s.j s.at _ s.invariant.0 w, y.len ∙ s.invariant.1, x.len ∙ s.invariant.2, turned_more _ (omega arith) s.invariant.3 e y, listed_more _ s.invariant.4 e x)

pub shape_of-columns : goal.shape_of-columns
shape_of-columns c = c.loop-j.invariant.1

pub shape_of-rows : goal.shape_of-rows
shape_of-rows c = c.loop-j.invariant.2

pub returns : goal.returns
returns c =
    let a = c.args in
    let s = c.loop-j in
    let e : s.j ≡ a.table.now.checks = omega arith in
    loaded a.table.now.words.now a.table.now.checks (by_number _ _ _ _ c.args.table.now.accepted) (subst (λ j. Turned a.table.now.words.now j s.columns) e s.invariant.3) (subst (λ j. Listed a.table.now.words.now j s.rows) e s.invariant.4)
