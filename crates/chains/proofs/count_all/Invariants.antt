-- `chains::count_all` meets its contract.
use Rattle.table.specs.Checks.{check}
use Rattle.erasure.specs.Restoring.{lost_places}
use Prim.Native.Nat.{ℕ, ◌<◌}
use mathlib.Core.Path.{◌≡◌}
use lib.ListN.{length, get_or}
use Rattle.chains.proofs.count_all.Given as goal

abbrev pub invariant-loop-j : goal.invariant-loop-j
invariant-loop-j l = (length l.count ≡ length l.initial.count) × ((k : ℕ) → k < l.j → get_or l.count k 0 ≡ length (lost_places l.map (check l.located.table.words.now l.located.table.checks k)))
