-- `turns::first_lost` meets its contract.
use Rattle.erasure.specs.Restoring.{lost_places}
use mathlib.Core.Path.{◌≡◌}
use lib.ListN.{get_or, drop}
use Rattle.turns.proofs.first_lost.Given as goal

abbrev pub invariant-loop-p : goal.invariant-loop-p
invariant-loop-p l = get_or (lost_places l.map l.places) 0 0 ≡ get_or (lost_places l.map (drop l.p-index l.places)) 0 0
