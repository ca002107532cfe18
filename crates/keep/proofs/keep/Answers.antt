-- `keep::keep` meets its contract: `Keeps` holds at each turn.
use Rattle.std.proofs.Common.{◌≡◌, ◌+◌, ◌-◌, refl, arith}
use Rattle.table.specs.Accepted.{places-at, check-fits}
use Rattle.table.specs.SumLaws.{places-low}
use Rattle.keep.proofs.Keeping.{start, owners, turn-hit, turn-miss, stop, told}
use Rattle.keep.proofs.keep.Goals as goal
use Rattle.keep.proofs.keep.Goals.{in-Some, in_default}

pub loop-i-init : goal.loop-i-init
loop-i-init c = start _ _ _ _ _ _ c.requires.unowned

pub run-places-requires : goal.run-places-requires
run-places-requires c =
    let s = c.loop-i in
    check-fits _ _ _ _ c.args.table.now.accepted s.i c.loop-i-test.true _ _ s.invariant.here c.from-weight.ensures

pub eliminate-requires-clause-check : goal.eliminate-requires-clause-check
eliminate-requires-clause-check c =
    let s = c.loop-i in
    rw c.run-places.ensures (places-low (places-at _ _ _ _ c.args.table.now.accepted s.i c.loop-i-test.true _ _ s.invariant.here c.from-weight.ensures _ refl))

pub eliminate-requires-clause-owners : goal.eliminate-requires-clause-owners
eliminate-requires-clause-owners c = owners c.loop-i.invariant (let room = c.requires.room in omega arith)

pub overflow_add-at-in-loop-i : goal.overflow_add-at-in-loop-i
overflow_add-at-in-loop-i c =
    let s = c.loop-i in
    let r = check-fits _ _ _ _ c.args.table.now.accepted s.i c.loop-i-test.true _ _ s.invariant.here c.from-weight.ensures in
    omega arith

pub loop-i-preserved : goal.loop-i-preserved
loop-i-preserved c =
    let s = c.loop-i in
    let wd = c.from-weight.ensures in
    let d = told _ _ _ s.invariant.here wd (rw c.run-places.ensures at c.eliminate.ensures) in
    let less = c.loop-i-test.true in
    let room = c.requires.room in
    let mo = d.most in
    elim c.match-eliminate.branch [
      | in-Some u ↦
          let hit = rw u.in-Some.is at d in
          let at : u.in-Some.p + 1 - 1 ≡ u.in-Some.p = omega arith in
          let here = hit.most in
          rw (u.owner-is, u.ids-is, u.k-is, wd) (rw at at (turn-hit _ s.invariant (omega arith) less hit (omega arith) (omega arith) (omega arith)))
      | in_default u ↦ rw (u.owner-is, u.ids-is, u.k-is, wd) (turn-miss _ s.invariant (omega arith) less (rw u.in_default.is at d) (λ z. omega arith))
    ]

pub returns : goal.returns
returns c = let s = c.loop-i in let e : s.i ≡ c.args.table.now.checks = omega arith in stop (rw e at s.invariant)
