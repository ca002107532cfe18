-- `emit::set_aside` meets its contract: the checks that are left, into their scratch slots.
use mathlib.Core.Path.{◌≡◌, sym, ap, ap₂, ◌∙◌}
use mathlib.Core.List.{[], ◌∷◌, ◌++◌}
use Prim.Native.Nat.{◌+◌, ◌≤◌}
use native.Mathlib.Omega.{arith}
use lib.ListN.{length}
use Rattle.lists.specs.Lists.{minus}
use Rattle.table.specs.Accepted.{few-places}
use Rattle.table.specs.Checks.{check}
use Rattle.table.specs.Table.{number, places}
use Rattle.rule.specs.Rule.{clear_and_add, scratch_steps}
use Rattle.emit.specs.Emit.{marked, aside_in}
use Rattle.lists.specs.WroteLaws.{left-all, left_is, left-more, left-done, wrote-is}
use Rattle.emit.specs.PackedLaws.{packed-length, left-steps}
use Rattle.emit.proofs.Passes.{scratches, one, scratches-all, scratches-none, scratches-next}
use Rattle.emit.proofs.set_aside.Goals as goal

pub loop-i-init : goal.loop-i-init
loop-i-init c = left-all _ _ _

pub check_into-k-requires : goal.check_into-k-requires
check_into-k-requires c =
    let a = c.args in
    let s = c.loop-i in
    let sk = a.skip.now in
    let t = a.located.now.table.words.now in
    let ids = a.aside.now in
    let all = ap length (scratches-all sk t ids a.g) in
    let room : a.at + length (scratches sk t ids a.g 0) ≤ length a.plan.now = omega (arith, packed-length (scratch_steps (places t) (marked sk) (aside_in t ids a.g)), c.requires.room) in
    let rest = scratches sk t ids a.g (s.i + 1) in
    let j = c.from.result in
    let to = c.args.located.now.table.places + s.i in
    let next = scratches-next sk t ids a.g s.i c.requires.table.located.table c.requires.checks.room c.loop-i-test.true (c.requires.checks.each s.i c.loop-i-test.true) ∙ ap₂ (λ x y. one sk t x (y + s.i) ++ rest) (sym c.from.ensures) (sym c.args.located.now.table.accepted.places-are) in
    let w = left_is (one sk t j to ++ rest) s.invariant next in
    let b = c.requires.checks.each s.i (omega arith) in
    let n = few-places _ _ _ _ c.requires.table.located.table in
    let e = c.args.located.now.table.accepted.places-are in
    let f = c.from.ensures in
    record { room = left-steps room (clear_and_add to (minus (check t (number t) j) (to ∷ marked sk))) rest w; table = c.requires.table; check = omega arith; slot = omega arith }

pub loop-i-preserved : goal.loop-i-preserved
loop-i-preserved c =
    let a = c.args in
    let s = c.loop-i in
    let sk = a.skip.now in
    let t = a.located.now.table.words.now in
    let ids = a.aside.now in
    let all = ap length (scratches-all sk t ids a.g) in
    let room : a.at + length (scratches sk t ids a.g 0) ≤ length a.plan.now = omega (arith, packed-length (scratch_steps (places t) (marked sk) (aside_in t ids a.g)), c.requires.room) in
    let rest = scratches sk t ids a.g (s.i + 1) in
    let j = c.from.result in
    let to = c.args.located.now.table.places + s.i in
    let next = scratches-next sk t ids a.g s.i c.requires.table.located.table c.requires.checks.room c.loop-i-test.true (c.requires.checks.each s.i c.loop-i-test.true) ∙ ap₂ (λ x y. one sk t x (y + s.i) ++ rest) (sym c.from.ensures) (sym c.args.located.now.table.accepted.places-are) in
    let w = left_is (one sk t j to ++ rest) s.invariant next in
    left-more room (one sk t j to) rest w c.check_into-k.ensures

pub returns : goal.returns
returns c =
    let a = c.args in
    let s = c.loop-i in
    let sk = a.skip.now in
    let t = a.located.now.table.words.now in
    let ids = a.aside.now in
    let all = ap length (scratches-all sk t ids a.g) in
    let room : a.at + length (scratches sk t ids a.g 0) ≤ length a.plan.now = omega (arith, packed-length (scratch_steps (places t) (marked sk) (aside_in t ids a.g)), c.requires.room) in
    let e : s.i ≡ a.g = omega arith in
    let w = left-done (left_is [] s.invariant (ap (scratches sk t ids a.g) e ∙ scratches-none sk t ids a.g c.requires.checks.room)) in
    wrote-is w (sym (scratches-all sk t ids a.g))
