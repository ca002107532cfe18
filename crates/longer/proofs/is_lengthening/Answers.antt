-- `longer::is_lengthening` meets its contract.
use mathlib.Core.Path.{sym, ◌∙◌}
use native.Mathlib.Omega.{arith}
use Rattle.std.proofs.Common.{leb-false}
use Rattle.longer.proofs.Words.{other-size, fewer-places, fewer-checks}
use Rattle.longer.proofs.is_lengthening.Goals as goal
use Rattle.longer.proofs.is_lengthening.Goals.{then-old-new, else-old-new, then-old-new-2, else-old-new-2}

pub returns-else-old-new-3 : goal.returns-else-old-new-3
returns-else-old-new-3 c =
    let t = c.args.old.now.words.now in
    let u = c.args.new.now.words.now in
    let a = c.args.old.now.accepted in
    let b = c.args.new.now.accepted in
    c.if-old-new-3.false
    ∙ sym (elim c.if-old-new-2.branch [
      | then-old-new-2 w ↦ fewer-checks t u a.accepted b.accepted (omega (arith, a.number_is, b.number_is, leb-false _ _ (sym w.value-is ∙ c.if-old-new-3.false)))
      | else-old-new-2 w ↦ elim c.if-old-new.branch [
        | then-old-new v ↦ fewer-places t u (omega (arith, a.places-are, b.places-are, leb-false _ _ (sym v.value-is ∙ w.if-old-new-2.false)))
        | else-old-new v ↦ other-size t u (λ e. v.if-old-new.false (a.size_is ∙ e ∙ sym b.size_is))
      ]
    ])
