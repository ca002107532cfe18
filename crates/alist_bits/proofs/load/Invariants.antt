-- `load` meets its contract: check after check.
use mathlib.Core.Path.{◌≡◌}
use Prim.Native.Nat.{◌+◌}
use lib.ListN.{length}
use Rattle.table.specs.Checks.{offset}
use Rattle.alist_bits.proofs.Turning.{Turned, Listed}
use Rattle.alist_bits.proofs.load.Given as goal

abbrev pub invariant-loop-j : goal.invariant-loop-j
invariant-loop-j l =
    (l.at ≡ 5 + l.table.checks + offset l.table.words.now l.j)
    × (length l.columns ≡ length l.initial.columns)
    × (length l.rows ≡ length l.initial.rows)
    × Turned l.table.words.now l.j l.columns
    × Listed l.table.words.now l.j l.rows
