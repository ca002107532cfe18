-- `sums::or_of` meets its contract: where the or is zero, the bytes passed are.
use Prim.Native.Nat.{ℕ, ◌<◌}
use mathlib.Core.Path.{◌≡◌}
use lib.ListN.{get_or}
use Rattle.sums.proofs.or_of.Given as goal

abbrev pub invariant-loop-x : goal.invariant-loop-x
invariant-loop-x l = l.o ≡ 0 → (k : ℕ) → k < l.x-index → get_or l.a k 0 ≡ 0
