-- `blame::take_column` meets its contract.
use mathlib.Core.Path.{◌≡◌}
use Prim.Native.Nat.{ℕ, ◌+◌, ◌*◌, ◌<◌}
use lib.ListN.{length, get_or}
use Rattle.blame.proofs.take_column.Given as goal

abbrev pub invariant-loop-p : goal.invariant-loop-p
invariant-loop-p l = (length l.column ≡ l.table.places) × ((k : ℕ) → k < l.p → get_or l.column k 0 ≡ get_or l.block (k * l.table.size + l.byte) 0)
