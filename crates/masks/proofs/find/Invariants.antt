-- `masks::find` meets its contract: no mask below i sees the column.
use Rattle.std.proofs.Common.{◌≡◌, ℕ, ◌<◌, false, get_or}
use Rattle.masks.specs.Dot.{dot}
use Rattle.masks.proofs.find.Given as goal

abbrev pub invariant-loop-i : goal.invariant-loop-i
invariant-loop-i l = (k : ℕ) → k < l.i → dot (get_or l.masks k 0) l.c ≡ false
