-- `emit::sum_check` meets its contract: the places that are left, one after the other.
use mathlib.Core.Path.{◌≡◌, ap}
use mathlib.Core.List.{[]}
use Prim.Native.Nat.{◌+◌, ◌≤◌, ◌<◌}
use native.Mathlib.Omega.{arith}
use lib.ListN.{drop_of_length-le, length, get_or, set, drop, length-set}
use Rattle.lists.specs.WroteLaws.{left-all, left_is, left_one, left-room, left-length, left-done, wrote_one, wrote-append}
use Rattle.lists.specs.ListLaws.{all-at}
use Rattle.emit.proofs.Sums.{adds, adds-length, adds-own, adds-marked, adds-next}
use Rattle.emit.proofs.sum_check.Goals as goal
use Rattle.emit.proofs.sum_check.Goals.{then-p-to+then-skip-p-ne1, then-p-to+else-skip-p-ne1, else-p-to}

pub loop-p-init : goal.loop-p-init
loop-p-init c = left-all _ _ _

pub bounds-skip-p : goal.bounds-skip-p
bounds-skip-p c =
    let b = all-at 0 c.requires.check c.loop-p.p-index c.loop-p-test.true in
    let e = c.from-p.ensures in
    let m = c.requires.marks in
    omega arith

pub pack-requires-then-skip-p-ne1 : goal.pack-requires-then-skip-p-ne1
pack-requires-then-skip-p-ne1 c =
    let b = all-at 0 c.requires.check c.loop-p.p-index c.loop-p-test.true in
    let e = c.from-p.ensures in
    omega arith

pub loop-p-preserved : goal.loop-p-preserved
loop-p-preserved c =
    let a = c.args in
    let s = c.loop-p in
    let C = a.places.now in
    let to = a.to in
    let sk = a.skip.now in
    let room : a.at + 1 + length (adds to sk C) ≤ length (set a.plan.now a.at c.pack.result) = simp length-set (omega (arith, adds-length to sk C)) in
    let i = s.p-index in
    let h : i < length C = c.loop-p-test.true in
    let p = c.from-p.result in
    let q : p ≡ get_or C i 0 = c.from-p.ensures in
    let l = s.invariant in
    elim c.if-p-to.branch [
      | then-p-to+then-skip-p-ne1 u ↦ (rw (u.plan-is, u.k-is, u.pack-then-skip-p-ne1.ensures) (left_one room (left_is _ l (adds-next to sk C i p h q u.if-p-to.true u.if-skip-p-ne1.true))))
      | then-p-to+else-skip-p-ne1 u ↦ (rw (u.plan-is, u.k-is) (left_is _ l (adds-marked to sk C i p h q u.if-p-to.true u.if-skip-p-ne1.false)))
      | else-p-to u ↦ (rw (u.plan-is, u.k-is) (left_is _ l (adds-own to sk C i p h q u.if-p-to.false)))
    ]

pub bounds-plan-k : goal.bounds-plan-k
bounds-plan-k c =
    let a = c.args in
    let s = c.loop-p in
    let C = a.places.now in
    let room : a.at + 1 + length (adds a.to a.skip.now C) ≤ length (set a.plan.now a.at c.pack.result) = simp length-set (omega (arith, adds-length a.to a.skip.now C)) in
    let next = adds-next a.to a.skip.now C s.p-index c.from-p.result c.loop-p-test.true c.from-p.ensures c.if-p-to.true c.if-skip-p-ne1.true in
    let r = left-room room (left_is _ s.invariant next) in
    let l = left-length room s.invariant in
    omega arith

pub returns : goal.returns
returns c =
    let a = c.args in
    let s = c.loop-p in
    let C = a.places.now in
    let room : a.at + 1 + length (adds a.to a.skip.now C) ≤ length (set a.plan.now a.at c.pack.result) = simp length-set (omega (arith, adds-length a.to a.skip.now C)) in
    let none : drop s.p-index C ≡ [] = drop_of_length-le C c.loop-p-test.false in
    let one = wrote_one a.plan.now a.at c.pack.result (omega arith) in
    let w = left-done (left_is [] s.invariant (ap (adds a.to a.skip.now) none)) in
    rw (← c.pack.ensures) (wrote-append (omega arith) one w)
