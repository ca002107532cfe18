-- `masks::mend_one` meets its contract.
use Rattle.masks.proofs.Masks.{mended-on, mended-off}
use mathlib.Core.Path.{sym, ◌∙◌}
use Rattle.masks.proofs.mend_one.Goals as goal

pub returns-then-sees : goal.returns-then-sees
returns-then-sees c = mended-on _ _ _ (sym c.sees.ensures ∙ c.if-sees.true)

pub returns-else-sees : goal.returns-else-sees
returns-else-sees c = mended-off _ _ _ (sym c.sees.ensures ∙ c.if-sees.false)
