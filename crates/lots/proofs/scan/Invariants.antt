-- `scan` meets its contract: no entry so far is free.
use mathlib.Core.Path.{◌≡◌}
use lib.ListN.{take, drop}
use Rattle.lists.specs.Lists.{any_of}
use Rattle.lots.specs.Grid.{free}
use Rattle.lots.proofs.scan.Given as goal

abbrev pub invariant-loop-i : goal.invariant-loop-i
invariant-loop-i l = any_of (free l.w l.j) (drop l.t (take l.e l.u)) ≡ any_of (free l.w l.j) (drop l.i (take l.e l.u))
