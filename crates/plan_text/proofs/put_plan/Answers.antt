-- `plan_text::put_plan` meets its contract: the heading, the information line, the steps and the number of add steps.
use mathlib.Core.Path.{refl, sym, ap, subst}
use mathlib.Core.List.{List}
use Prim.Native.Nat.{ℕ, ◌+◌, ◌≤◌}
use native.Mathlib.Omega.{arith}
use lib.ListN.{length, length-append}
use Rattle.plan.specs.Layout.{plan_places, plan_gap, plan_kept, info_in, steps_of}
use Rattle.numerals.specs.Numerals.{decimal}
use Rattle.text.specs.LinesLaws.{left-all, left-room, left-next, left-last, same_word}
use Rattle.plan_text.specs.PlanText.{heading, plan_text_of, info_line, step_lines, adds_line}
use Rattle.plan_text.proofs.Rests.{from_info, from_steps, from_adds, same-heading}
use Rattle.plan_text.proofs.put_plan.Goals as goal

pub put_heading-at-requires : goal.put_heading-at-requires
put_heading-at-requires c =
    let a = c.args in
    let h = same-heading a.ones c.places.ensures refl c.kept.ensures c.gap.ensures in
    let l0 = left-all a.out.now 0 (plan_text_of a.plan.now.words.now a.s a.ones) (omega (arith, c.requires.ones_in_bounds)) in
    let w = a.plan.now.words.now in
    subst (λ (t : List ℕ). 0 + length t ≤ length a.out.now) (sym h) (left-room (heading (plan_places w) a.s (plan_kept w) a.ones (plan_gap w)) (from_info w) l0)

pub put_info-at-requires : goal.put_info-at-requires
put_info-at-requires c =
    let a = c.args in
    let h = same_word (same-heading a.ones c.places.ensures refl c.kept.ensures c.gap.ensures) c.put_heading-at.ensures in
    let l0 = left-all a.out.now 0 (plan_text_of a.plan.now.words.now a.s a.ones) (omega (arith, c.requires.ones_in_bounds)) in
    let l1 = left-next (from_info a.plan.now.words.now) h l0 in
    rw c.info.ensures (left-room (info_line (info_in a.plan.now.words.now)) (from_steps a.plan.now.words.now) l1)

pub put_steps-at-requires : goal.put_steps-at-requires
put_steps-at-requires c =
    let a = c.args in
    let h = same_word (same-heading a.ones c.places.ensures refl c.kept.ensures c.gap.ensures) c.put_heading-at.ensures in
    let l0 = left-all a.out.now 0 (plan_text_of a.plan.now.words.now a.s a.ones) (omega (arith, c.requires.ones_in_bounds)) in
    let l1 = left-next (from_info a.plan.now.words.now) h l0 in
    let l2 = left-next (from_steps a.plan.now.words.now) (rw c.info.ensures at c.put_info-at.ensures) l1 in
    rw c.steps.ensures (left-room (step_lines (steps_of a.plan.now.words.now)) (from_adds a.plan.now.words.now) l2)

pub put_line-requires : goal.put_line-requires
put_line-requires c =
    let a = c.args in
    let h = same_word (same-heading a.ones c.places.ensures refl c.kept.ensures c.gap.ensures) c.put_heading-at.ensures in
    let l0 = left-all a.out.now 0 (plan_text_of a.plan.now.words.now a.s a.ones) (omega (arith, c.requires.ones_in_bounds)) in
    let l1 = left-next (from_info a.plan.now.words.now) h l0 in
    let l2 = left-next (from_steps a.plan.now.words.now) (rw c.info.ensures at c.put_info-at.ensures) l1 in
    let l3 = left-next (from_adds a.plan.now.words.now) (rw c.steps.ensures at c.put_steps-at.ensures) l2 in
    let e = ap (λ (k : ℕ). length (decimal k)) c.requires.additions_value in
    let r = simp length-append at l3.room in
    simp length-append (omega arith)

pub returns : goal.returns
returns c =
    let a = c.args in
    let h = same_word (same-heading a.ones c.places.ensures refl c.kept.ensures c.gap.ensures) c.put_heading-at.ensures in
    let l0 = left-all a.out.now 0 (plan_text_of a.plan.now.words.now a.s a.ones) (omega (arith, c.requires.ones_in_bounds)) in
    let l1 = left-next (from_info a.plan.now.words.now) h l0 in
    let l2 = left-next (from_steps a.plan.now.words.now) (rw c.info.ensures at c.put_info-at.ensures) l1 in
    let l3 = left-next (from_adds a.plan.now.words.now) (rw c.steps.ensures at c.put_steps-at.ensures) l2 in
    left-last l3 (same_word (ap adds_line c.requires.additions_value) c.put_line.ensures)
