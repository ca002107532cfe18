-- `heaviest` meets its contract: the greatest so far and the rows left decide.
use mathlib.Core.Path.{◌≡◌}
use mathlib.Core.List.{map}
use Prim.Native.Nat.{max, ◌≤◌}
use lib.ListN.{length}
use Rattle.bits.specs.Row.{rows_in}
use Rattle.making.specs.Rows.{rows_from}
use Rattle.alist.specs.Alist.{greatest}
use Rattle.alist_write.proofs.heaviest.Given as goal

abbrev pub invariant-loop-c : goal.invariant-loop-c
invariant-loop-c l = (l.most ≤ 1024) × (max l.most (greatest (map length (rows_from l.w l.count l.c))) ≡ greatest (map length (rows_in l.w l.count)))
