-- `emit::mark` meets its contract: the places, one after the other.
use mathlib.Core.Path.{◌≡◌}
use lib.ListN.{length, take, drop}
use Rattle.emit.specs.Emit.{marking}
use Rattle.emit.proofs.mark.Given as goal

abbrev pub invariant-loop-i : goal.invariant-loop-i
invariant-loop-i l = (length l.marks ≡ length l.initial.marks) × (marking l.initial.marks (take l.count l.places) ≡ marking l.marks (drop l.i (take l.count l.places)))
