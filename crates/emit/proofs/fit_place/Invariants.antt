-- `emit::fit_place` meets its contract: the slots that are left, bit by bit.
use Prim.Native.Nat.{◌+◌}
use Rattle.lists.specs.WroteLaws.{Left}
use Rattle.emit.proofs.Slots.{named}
use Rattle.emit.proofs.fit_place.Given as goal

abbrev pub invariant-loop-i : goal.invariant-loop-i
invariant-loop-i l = Left l.initial.plan (l.at + 1) (named l.to l.n l.g l.row 0) (named l.to l.n l.g l.row l.i) l.plan l.k
