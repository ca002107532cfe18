-- `blame::narrow_table` meets its contract.
use mathlib.Core.Path.{◌≡◌}
use Prim.Native.Nat.{ℕ, ◌<◌}
use lib.ListN.{length, get_or}
use Rattle.blame.proofs.narrow_table.Given as goal

abbrev pub invariant-loop-i : goal.invariant-loop-i
invariant-loop-i l = (length l.small ≡ length l.t) × ((k : ℕ) → k < l.i → get_or l.small k 0 ≡ get_or l.t k 0)
