-- `all_rise` meets its contract: the checks left decide.
use mathlib.Core.Path.{◌≡◌}
use Prim.Native.Nat.{◌+◌, ◌-◌, ◌≤◌}
use lib.ListN.{length, take, drop}
use Rattle.table.specs.Table.{total}
use Rattle.table.proofs.Looking.{part, passes}
use Rattle.table.proofs.all_rise.Given as goal

abbrev pub invariant-loop-j : goal.invariant-loop-j
invariant-loop-j l = (l.j ≤ l.m) × (l.at + total (part l.t (4 + l.j) (4 + l.m)) ≤ length l.t) × (passes l.n (take l.m (drop 4 l.t)) (drop (5 + l.m) l.t) ≡ passes l.n (part l.t (4 + l.j) (4 + l.m)) (drop l.at l.t))

abbrev pub decreases-loop-j : goal.decreases-loop-j
decreases-loop-j l = l.m - l.j
