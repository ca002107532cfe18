-- `turn_check` meets its contract: place after place.
use lib.ListN.{take}
use Rattle.alist_bits.specs.Loaded.{Flipped}
use Rattle.alist_bits.proofs.turn_check.Given as goal

abbrev pub invariant-loop-p : goal.invariant-loop-p
invariant-loop-p l = Flipped l.j (take l.p-index l.places) l.initial.columns l.columns
