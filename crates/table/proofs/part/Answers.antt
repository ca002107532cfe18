-- `part` meets its contract.
use mathlib.Core.Path.{refl}
use native.Mathlib.Nat.{add-sub_cancel_left}
use Rattle.table.proofs.part.Goals as goal

pub returns : goal.returns
returns c = (simp add-sub_cancel_left, refl)
