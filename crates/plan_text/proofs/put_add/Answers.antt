-- `plan_text::put_add` meets its contract: the words of the line, one after the other.
use mathlib.Core.List.{◌++◌}
use native.Mathlib.Omega.{arith}
use lib.ListN.{length-append}
use Rattle.plan.specs.declared.Step.TheVariants.{Add}
use Rattle.numerals.specs.Numerals.{decimal}
use Rattle.text.specs.Lines.{bytes}
use Rattle.text.specs.LinesLaws.{left-all, left-next, left-last}
use Rattle.plan_text.specs.PlanText.{step_line}
use Rattle.plan_text.proofs.put_add.Goals as goal

pub put_count-at-requires : goal.put_count-at-requires
put_count-at-requires c = let h = simp length-append at c.requires in simp length-append (omega arith)

pub put_line-requires : goal.put_line-requires
put_line-requires c =
    let h = simp length-append at c.requires in
    let e = simp length-append at c.put_count-at.ensures.ends in
    simp length-append (omega arith)

pub returns : goal.returns
returns c =
    let a = c.args in
    let l = left-all a.out.now a.at (step_line (Add a.to a.from)) c.requires in
    left-last (left-next (bytes " " ++ decimal a.to ++ bytes "\n") c.put_count-at.ensures l) c.put_line.ensures
