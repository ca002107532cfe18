-- `formed::well_formed` meets its contract: the counts, the information places, the steps.
use Rattle.std.proofs.Common.{◌≡◌, refl, sym, ap, ◌∙◌, true, false, ℕ, ◌≤◌, length, arith}
use Rattle.std.proofs.lemmas.List.{length-replicate}
use Rattle.table.specs.Table.{rising}
use Rattle.plan.specs.Layout.{info_in, slots, bad_counts, plan_places}
use Rattle.plan.specs.LayoutLaws.{counted}
use Rattle.plan.specs.LookOver.{most_slots}
use Rattle.formed.proofs.Marking.{marks-none}
use Rattle.formed.proofs.Passing.{same-steps}
use Rattle.formed.proofs.well_formed.Goals as goal

pub mark_places-requires-clause-unmarked : goal.mark_places-requires-clause-unmarked
mark_places-requires-clause-unmarked c = marks-none most_slots

pub returns-then-mark_places : goal.returns-then-mark_places
returns-then-mark_places c =
    let w = c.args.words.now in let q : bad_counts w ≡ false = sym c.bad_counts.ensures ∙ c.if-bad_counts.false in let k = counted w q in
    let long : slots w ≤ length c.mark_places.new.marks = omega (arith, c.mark_places.auto.marks, length-replicate {A = ℕ} most_slots 0) in
    let r : rising (plan_places w) 0 (info_in w) ≡ true = ap (λ (n : ℕ). rising n 0 (info_in w)) (sym c.places-n.ensures) ∙ sym c.mark_places.ensures.rises ∙ c.if-mark_places.true in
    rw (q, r) (rw c.steps.ensures at c.good_steps.ensures ∙ same-steps w _ _ _ _ c.places-n.ensures c.gap.ensures refl long (c.mark_places.ensures.marked c.if-mark_places.true))
