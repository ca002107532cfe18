-- `tracing::take_checks` meets its contract: `Takes` holds at each turn.
use Prim.Native.Nat.{◌+◌, ◌-◌}
use mathlib.Core.Path.{◌≡◌, refl}
use native.Mathlib.Omega.{arith}
use Rattle.table.specs.Accepted.{few-places, few-checks, places-at, check-fits}
use Rattle.table.specs.SumLaws.{places-low}
use Rattle.rows.specs.Choosing.{choosing-owners}
use Rattle.tracing.proofs.Taking.{start, turn-hit, turn-miss, stop, told-row, told-feed}
use Rattle.tracing.proofs.take_checks.Goals as goal
use Rattle.tracing.proofs.take_checks.Goals.{in-Some, in_default}

pub loop-i-init : goal.loop-i-init
loop-i-init c = start _ _ _ _ _ _ _ _ c.requires.unowned

pub run-places-requires : goal.run-places-requires
run-places-requires c =
    let s = c.loop-i in
    check-fits _ _ _ _ c.args.table.now.accepted s.i c.loop-i-test.true _ _ s.invariant.here c.from-weight.ensures

pub take_check-requires : goal.take_check-requires
take_check-requires c =
    let s = c.loop-i in
    let p = c.requires in
    let table = c.args.table.now.accepted in
    let v = places-at _ _ _ _ table s.i c.loop-i-test.true _ _ s.invariant.here c.from-weight.ensures _ refl in
    let f = s.invariant.rows.few in
    let nar = few-places _ _ _ _ table in
    let most = few-checks _ _ _ _ table in
    let room = p.room in
    let less = c.loop-i-test.true in
    record {
      check = rw c.run-places.ensures (places-low v);
      lost = p.lost;
      rows = (omega arith, omega arith, nar, omega arith, omega arith, omega arith, s.invariant.rows.owned, choosing-owners s.invariant.rows (omega arith));
    }

pub overflow_add-at-in-loop-i : goal.overflow_add-at-in-loop-i
overflow_add-at-in-loop-i c =
    let s = c.loop-i in
    let r = check-fits _ _ _ _ c.args.table.now.accepted s.i c.loop-i-test.true _ _ s.invariant.here c.from-weight.ensures in
    omega arith

pub loop-i-preserved : goal.loop-i-preserved
loop-i-preserved c =
    let s = c.loop-i in
    let p = c.requires in
    let a = c.args in
    let table = a.table.now.accepted in
    let wd = c.from-weight.ensures in
    let less = c.loop-i-test.true in
    let d = told-row table a.lost.now s.i less s.invariant.here wd (rw c.run-places.ensures at c.take_check.ensures.row) in
    let g = told-feed table a.lost.now s.i less s.invariant.here wd s.w s.owner (rw c.run-places.ensures at c.take_check.ensures.feeders) in
    let few = s.invariant.rows.few in
    let room = p.room in
    elim c.match-take_check.branch [
      | in-Some u ↦
          let i : u.in-Some.p + 1 - 1 ≡ u.in-Some.p = omega arith in
          let e = rw u.in-Some.is at d in
          let most = e.most in
          rw (u.owner-is, u.ids-is, u.k-is, wd) (rw i at (turn-hit s.invariant (omega arith) less e g (omega arith) (omega arith) (omega arith)))
      | in_default u ↦
          let e = rw u.in_default.is at d in
          rw (u.owner-is, u.ids-is, u.k-is, wd) (turn-miss s.invariant (omega arith) less e g (λ z. omega arith))
    ]

pub returns : goal.returns
returns c =
    let s = c.loop-i in
    let few = s.invariant.rows.few in
    let room = c.requires.room in
    let e : s.i ≡ c.args.table.now.checks = omega arith in
    stop c.args.table.now.accepted (omega arith) (rw e at s.invariant)
