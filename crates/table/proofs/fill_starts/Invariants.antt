-- `fill_starts` meets its contract: the starts written so far, and the start of the next check.
use mathlib.Core.Path.{◌≡◌}
use Prim.Native.Nat.{◌+◌}
use lib.ListN.{length}
use Rattle.table.specs.Checks.{offset}
use Rattle.table.proofs.Starting.{Written}
use Rattle.table.proofs.fill_starts.Given as goal

abbrev pub invariant-loop-j : goal.invariant-loop-j
invariant-loop-j l = (l.at ≡ 5 + l.table.checks + offset l.table.words.now l.j) × (length l.starts ≡ length l.initial.starts) × Written l.table.words.now l.table.checks l.j l.starts
