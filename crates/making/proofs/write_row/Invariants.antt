-- `making::write_row` meets its contract: what is left to write are the places of the words left.
use Prim.Native.Nat.{◌-◌}
use Rattle.lists.specs.WroteLaws.{Left}
use Rattle.bits.specs.Row.{row, places_in}
use Rattle.bits.specs.WordPlaces.{places_from}
use Rattle.making.proofs.write_row.Given as goal

abbrev pub invariant-loop-i : goal.invariant-loop-i
invariant-loop-i l = Left l.initial.table l.at (places_in (row l.w l.r)) (places_from l.w l.r l.i (16 - l.i)) l.table l.k
