-- `put_row` meets its contract: what is left to put are the places of the words left.
use mathlib.Core.List.{map}
use Prim.Native.Nat.{suc, ◌+◌, ◌-◌, ◌*◌, ◌≤◌}
use lib.Dec.{eqb}
use Rattle.bits.specs.Row.{row, places_in}
use Rattle.bits.specs.WordPlaces.{places_from}
use Rattle.alist_numbers.specs.Put.{Put, numbers_on}
use Rattle.alist_numbers.specs.PutLaws.{Part}
use Rattle.alist_numbers.proofs.put_row.Given as goal

abbrev pub invariant-loop-i : goal.invariant-loop-i
invariant-loop-i l =
    (l.k ≤ l.at + 320 * l.i)
    × Part (λ x. Put l.initial.text l.at (numbers_on (eqb l.at l.start) x) l.text l.k) (map suc (places_in (row l.w l.r))) (map suc (places_from l.w l.r l.i (16 - l.i)))
