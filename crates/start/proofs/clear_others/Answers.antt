-- `start::clear_others` meets its contract: the gaps between the information places, the last one, and the scratch are cleared by the same marks.
use Rattle.std.proofs.Common.{arith}
use Rattle.plan.specs.LayoutLaws.{well}
use Rattle.plan.specs.LookOver.{most_slots}
use Rattle.start.proofs.ClearLaws.{gaps-low, all-kept, cleared-for}
use Rattle.start.proofs.MarkLaws.{marked-none}
use Rattle.start.proofs.clear_others.Goals as goal

pub mark_slots-requires-clause-none : goal.mark_slots-requires-clause-none
mark_slots-requires-clause-none c = marked-none most_slots

pub clear_gap-requires-clause-order : goal.clear_gap-requires-clause-order
clear_gap-requires-clause-order c =
    let a = c.args in let w = a.plan.now.words.now in let f = well w c.requires.lent.formed in
    omega (arith, c.places-n.ensures, gaps-low w f _ a.s a.block.now _ _ c.clear_gaps-low.ensures)

pub returns-clause-cleared : goal.returns-clause-cleared
returns-clause-cleared c =
    let a = c.args in let p = c.requires in let w = a.plan.now.words.now in let n = c.places-n.ensures in
    cleared-for w (well w p.lent.formed) a.s _ _ a.block.now _ _ c.clear_gaps-low.ensures (rw n at c.clear_gap.ensures) a.scratch.now _ (omega arith) (omega arith) _ c.mark_slots.ensures
    (rw (n, c.gap-g.ensures) at c.clear_gap-2.ensures)

pub returns-clause-keeps : goal.returns-clause-keeps
returns-clause-keeps c =
    let a = c.args in let w = a.plan.now.words.now in
    all-kept w (well w c.requires.lent.formed) a.s _ _ a.block.now _ _ c.clear_gaps-low.ensures (rw c.places-n.ensures at c.clear_gap.ensures)
