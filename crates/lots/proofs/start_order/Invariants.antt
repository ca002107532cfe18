-- `start_order` meets its contract: the first h entries are written.
use Prim.Native.Nat.{◌%◌}
use mathlib.Core.Path.{◌≡◌}
use mathlib.Core.List.{◌++◌, map}
use lib.ListN.{drop}
use Rattle.lists.specs.Lists.{from}
use Rattle.lots.proofs.start_order.Given as goal

abbrev pub invariant-loop-h : goal.invariant-loop-h
invariant-loop-h l = l.u ≡ map (λ h. h % l.m) (from 0 l.h) ++ drop l.h l.initial.u
