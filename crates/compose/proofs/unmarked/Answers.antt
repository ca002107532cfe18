-- `compose::unmarked` meets its contract: the places that are left, one after the other.
use mathlib.Core.Path.{◌≡◌, ap, ◌∙◌}
use mathlib.Core.List.{[]}
use Prim.Native.Nat.{◌+◌, ◌≤◌}
use native.Mathlib.Omega.{arith}
use lib.ListN.{length}
use Rattle.lists.specs.Lists.{below, rev, minus}
use Rattle.emit.specs.Emit.{marked}
use Rattle.lists.specs.WroteLaws.{left-all, left_is, left_one, left-room, left-length, left-done}
use Rattle.compose.proofs.FreePlaces.{frees, frees_all, frees-none, frees-marked, frees-next}
use Rattle.compose.proofs.unmarked.Goals as goal
use Rattle.compose.proofs.unmarked.Goals.{then-used-p-ne1, else-used-p-ne1}

pub loop-p-init : goal.loop-p-init
loop-p-init c = left_is _ (left-all _ _ _) (frees_all _ _)

pub bounds-plan-k : goal.bounds-plan-k
bounds-plan-k c =
    let a = c.args in
    let s = c.loop-p in
    let room : a.at + length (minus (rev (below a.n)) (marked a.used.now)) ≤ length a.plan.now = c.requires.room in
    let r = left-room room (left_is _ s.invariant (frees-next a.n a.used.now s.p c.loop-p-test.true c.if-used-p-ne1.true)) in
    let l = left-length room s.invariant in
    omega arith

pub loop-p-preserved : goal.loop-p-preserved
loop-p-preserved c =
    let a = c.args in
    let s = c.loop-p in
    let room : a.at + length (minus (rev (below a.n)) (marked a.used.now)) ≤ length a.plan.now = c.requires.room in
    let l = s.invariant in
    let h = c.loop-p-test.true in
    elim c.if-used-p-ne1.branch [
      | then-used-p-ne1 u ↦ (rw (u.plan-is, u.k-is) (left_one room (left_is _ l (frees-next a.n a.used.now s.p h u.if-used-p-ne1.true))))
      | else-used-p-ne1 u ↦ (rw (u.plan-is, u.k-is) (left_is _ l (frees-marked a.n a.used.now s.p h u.if-used-p-ne1.false)))
    ]

pub returns : goal.returns
returns c =
    let a = c.args in
    let s = c.loop-p in
    let room : a.at + length (minus (rev (below a.n)) (marked a.used.now)) ≤ length a.plan.now = c.requires.room in
    let e : s.p ≡ a.n = omega arith in
    left-done (left_is [] s.invariant (ap (frees a.n a.used.now) e ∙ frees-none a.n a.used.now))
