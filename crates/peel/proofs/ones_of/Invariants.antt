-- `peel::ones_of` meets its contract: the sum is that of the kept checks from i on.
use Rattle.std.proofs.Common.{◌≡◌, ◌+◌, ◌*◌, ◌≤◌, map, drop}
use Rattle.table.specs.Table.{total}
use Rattle.keep.specs.Kept.{kept_of}
use Rattle.peel.specs.Choice.{weight}
use Rattle.peel.proofs.ones_of.Given as goal

abbrev pub invariant-loop-i : goal.invariant-loop-i
invariant-loop-i l = record {
  few : l.sum + 65536 * l.i ≤ 65536 * l.k;
  ones : l.sum ≡ total (map (weight l.table.words.now) (drop l.i (kept_of l.table.words.now l.table.checks)));
}
