-- `put_word` meets its contract: what is left to put are the places of the digits left.
use mathlib.Core.List.{map}
use Prim.Native.Nat.{suc, ◌+◌, ◌*◌, ◌^◌, ◌<◌, ◌≤◌}
use lib.Dec.{eqb}
use lib.ListN.{length}
use Rattle.bits.specs.WordPlaces.{places_of}
use Rattle.alist_numbers.specs.Put.{Put, numbers_on}
use Rattle.alist_numbers.specs.PutLaws.{Part}
use Rattle.alist_numbers.proofs.put_word.Given as goal

abbrev pub invariant-loop-y : goal.invariant-loop-y
invariant-loop-y l =
    (l.y < 2 ^ 64)
    × (l.k + 5 * length (places_of l.base 64 l.y) ≤ l.at + 320)
    × Part (λ x. Put l.initial.text l.at (numbers_on (eqb l.at l.start) x) l.text l.k) (map suc (places_of l.base 64 l.x)) (map suc (places_of l.base 64 l.y))

abbrev pub decreases-loop-y : goal.decreases-loop-y
decreases-loop-y l = length (places_of l.base 64 l.y)
