-- `bits::ones_of` meets its contract: the places counted so far and those of the words left are all.
use mathlib.Core.Path.{◌≡◌}
use Prim.Native.Nat.{◌+◌, ◌-◌, ◌*◌, ◌≤◌}
use lib.ListN.{length}
use Rattle.bits.specs.Row.{row, places_in}
use Rattle.bits.specs.WordPlaces.{places_from}
use Rattle.bits.proofs.ones_of.Given as goal

abbrev pub invariant-loop-x : goal.invariant-loop-x
invariant-loop-x l = record {
  few : l.n ≤ l.x-index * 64;
  rest : length (places_in (row l.w l.r)) ≡ l.n + length (places_from l.w l.r l.x-index (16 - l.x-index));
}
