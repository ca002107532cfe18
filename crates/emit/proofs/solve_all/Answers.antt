-- `emit::solve_all` meets its contract: the checks that are left, the last taken first.
use mathlib.Core.Path.{◌≡◌, sym, ap, ap₂, ◌∙◌}
use mathlib.Core.List.{[], ◌∷◌, ◌++◌}
use Prim.Native.Nat.{◌+◌, ◌-◌, ◌≤◌}
use native.Mathlib.Omega.{arith}
use lib.ListN.{length}
use Rattle.lists.specs.Lists.{rev, minus}
use Rattle.table.specs.Accepted.{few-places}
use Rattle.table.specs.Checks.{check}
use Rattle.table.specs.Table.{number}
use Rattle.rule.specs.Rule.{clear_and_add, solving_steps}
use Rattle.emit.specs.Emit.{marked, solved_in}
use Rattle.lists.specs.WroteLaws.{left-all, left_is, left-more, left-done}
use Rattle.emit.specs.PackedLaws.{packed-length, left-steps}
use Rattle.emit.proofs.Passes.{solves, one, solves-none, solves-next}
use Rattle.emit.proofs.solve_all.Goals as goal

pub loop-i-init : goal.loop-i-init
loop-i-init c = left-all _ _ _

pub check_into-k-requires : goal.check_into-k-requires
check_into-k-requires c =
    let a = c.args in
    let s = c.loop-i in
    let sk = a.skip.now in
    let t = a.located.now.table.words.now in
    let room : a.at + length (solves sk t a.order.now a.owns.now a.taken) ≤ length a.plan.now = omega (arith, packed-length (solving_steps (marked sk) (rev (solved_in t a.order.now a.owns.now a.taken))), c.requires.room) in
    let rest = solves sk t a.order.now a.owns.now (s.i - 1) in
    let j = c.from.result in
    let to = c.from-in-loop-i.result in
    let next = solves-next sk t a.order.now a.owns.now s.i c.loop-i-test.true ∙ ap₂ (λ x y. one sk t x y ++ rest) (sym c.from.ensures) (sym c.from-in-loop-i.ensures) in
    let w = left_is (one sk t j to ++ rest) s.invariant next in
    let b = c.requires.checks.each (s.i - 1) (omega arith) in
    let o = c.requires.own.each (s.i - 1) (omega arith) in
    let n = few-places _ _ _ _ c.requires.table.located.table in
    let e = c.from.ensures in
    let f = c.from-in-loop-i.ensures in
    record { room = left-steps room (clear_and_add to (minus (check t (number t) j) (to ∷ marked sk))) rest w; table = c.requires.table; check = omega arith; slot = omega arith }

pub loop-i-preserved : goal.loop-i-preserved
loop-i-preserved c =
    let a = c.args in
    let s = c.loop-i in
    let sk = a.skip.now in
    let t = a.located.now.table.words.now in
    let room : a.at + length (solves sk t a.order.now a.owns.now a.taken) ≤ length a.plan.now = omega (arith, packed-length (solving_steps (marked sk) (rev (solved_in t a.order.now a.owns.now a.taken))), c.requires.room) in
    let rest = solves sk t a.order.now a.owns.now (s.i - 1) in
    let j = c.from.result in
    let to = c.from-in-loop-i.result in
    let next = solves-next sk t a.order.now a.owns.now s.i c.loop-i-test.true ∙ ap₂ (λ x y. one sk t x y ++ rest) (sym c.from.ensures) (sym c.from-in-loop-i.ensures) in
    let w = left_is (one sk t j to ++ rest) s.invariant next in
    left-more room (one sk t j to) rest w c.check_into-k.ensures

pub returns : goal.returns
returns c =
    let a = c.args in
    let s = c.loop-i in
    let sk = a.skip.now in
    let t = a.located.now.table.words.now in
    let room : a.at + length (solves sk t a.order.now a.owns.now a.taken) ≤ length a.plan.now = omega (arith, packed-length (solving_steps (marked sk) (rev (solved_in t a.order.now a.owns.now a.taken))), c.requires.room) in
    let e : s.i ≡ 0 = omega arith in
    left-done (left_is [] s.invariant (ap (solves sk t a.order.now a.owns.now) e ∙ solves-none sk t a.order.now a.owns.now))
