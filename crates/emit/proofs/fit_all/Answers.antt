-- `emit::fit_all` meets its contract: the fitted places that are left.
use mathlib.Core.Path.{◌≡◌, sym, ap, ◌∙◌}
use mathlib.Core.List.{map, [], ◌++◌}
use Prim.Native.Nat.{◌+◌, ◌≤◌}
use native.Mathlib.Omega.{arith}
use lib.ListN.{length, get_or}
use Rattle.plan.specs.Step.{pack}
use Rattle.rule.specs.Buffers.{mask_bits}
use Rattle.rule.specs.Rule.{clear_and_add, slots_named}
use Rattle.emit.specs.Emit.{fitting_rows}
use Rattle.lists.specs.WroteLaws.{left-all, left_is, left-more, left-done, wrote-is}
use Rattle.emit.specs.PackedLaws.{packed-length, left-steps}
use Rattle.emit.proofs.Passes.{fits, fits_all, fits-none, fits_next}
use Rattle.emit.proofs.fit_all.Goals as goal

pub loop-j-init : goal.loop-j-init
loop-j-init c = left-all _ _ _

pub fit_place-k-requires : goal.fit_place-k-requires
fit_place-k-requires c =
    let a = c.args in
    let s = c.loop-j in
    let fs = a.fitted.now in
    let rs = a.rows.now in
    let all = ap length (fits_all a.n a.g fs rs) in
    let room : a.at + length (fits a.n a.g fs rs 0) ≤ length a.plan.now = omega (arith, packed-length (fitting_rows a.n a.g fs rs 0 a.g), c.requires.room) in
    let rest = fits a.n a.g fs rs (s.j + 1) in
    let steps = clear_and_add c.from.result (slots_named a.n (mask_bits a.g (get_or rs s.j 0))) in
    let next = fits_next a.n a.g fs rs s.j c.loop-j-test.true ∙ ap (λ to. map pack (clear_and_add to (slots_named a.n (mask_bits a.g (get_or rs s.j 0)))) ++ rest) (sym c.from.ensures) in
    let w = left_is (map pack steps ++ rest) s.invariant next in
    let o = c.requires.fitted.each s.j (omega arith) in
    let e = c.from.ensures in
    record { room = left-steps room steps rest w; places = omega arith; few = omega arith; slot = omega arith }

pub loop-j-preserved : goal.loop-j-preserved
loop-j-preserved c =
    let a = c.args in
    let s = c.loop-j in
    let fs = a.fitted.now in
    let rs = a.rows.now in
    let all = ap length (fits_all a.n a.g fs rs) in
    let room : a.at + length (fits a.n a.g fs rs 0) ≤ length a.plan.now = omega (arith, packed-length (fitting_rows a.n a.g fs rs 0 a.g), c.requires.room) in
    let rest = fits a.n a.g fs rs (s.j + 1) in
    let steps = clear_and_add c.from.result (slots_named a.n (mask_bits a.g (get_or rs s.j 0))) in
    let next = fits_next a.n a.g fs rs s.j c.loop-j-test.true ∙ ap (λ to. map pack (clear_and_add to (slots_named a.n (mask_bits a.g (get_or rs s.j 0)))) ++ rest) (sym c.from.ensures) in
    let w = left_is (map pack steps ++ rest) s.invariant next in
    left-more room (map pack steps) rest w c.fit_place-k.ensures

pub returns : goal.returns
returns c =
    let a = c.args in
    let s = c.loop-j in
    let fs = a.fitted.now in
    let rs = a.rows.now in
    let all = ap length (fits_all a.n a.g fs rs) in
    let room : a.at + length (fits a.n a.g fs rs 0) ≤ length a.plan.now = omega (arith, packed-length (fitting_rows a.n a.g fs rs 0 a.g), c.requires.room) in
    let e : s.j ≡ a.g = omega arith in
    let w = left-done (left_is [] s.invariant (ap (fits a.n a.g fs rs) e ∙ fits-none a.n a.g fs rs)) in
    wrote-is w (sym (fits_all a.n a.g fs rs))
