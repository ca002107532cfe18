-- `making::write_word` meets its contract: what is left to write are the places of the digits left.
use Prim.Native.Nat.{◌^◌, ◌<◌}
use lib.ListN.{length}
use Rattle.lists.specs.WroteLaws.{Left}
use Rattle.bits.specs.WordPlaces.{places_of}
use Rattle.making.proofs.write_word.Given as goal

abbrev pub invariant-loop-y : goal.invariant-loop-y
invariant-loop-y l = (l.y < 2 ^ 64) × Left l.initial.table l.at (places_of l.base 64 l.x) (places_of l.base 64 l.y) l.table l.k

abbrev pub decreases-loop-y : goal.decreases-loop-y
decreases-loop-y l = length (places_of l.base 64 l.y)
