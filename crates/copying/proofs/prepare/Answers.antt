-- `copying::prepare` meets its contract: slots cleared, and the information copied.
use Rattle.std.proofs.Common.{arith}
use Rattle.plan.specs.LayoutLaws.{well}
use Rattle.copying.proofs.CopyLaws.{prepared-for}
use Rattle.copying.proofs.prepare.Goals as goal

pub returns : goal.returns
returns c =
    let a = c.args in let p = c.requires in let w = a.plan.now.words.now in
    rw c.copy_information.ensures.copied
    (prepared-for w a.s _ _ (omega arith) (omega arith) (well w p.lent.formed) _ a.information.now p.information c.clear_others.ensures.cleared)
