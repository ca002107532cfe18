-- `least::write_places` meets its contract: the places below p are looked at.
use Prim.Native.Nat.{◌≤◌}
use Rattle.bits.specs.Front.{Front}
use Rattle.least.specs.Solved.{in_set}
use Rattle.least.proofs.Solving.{places_below}
use Rattle.least.proofs.write_places.Given as goal

abbrev pub invariant-loop-p : goal.invariant-loop-p
invariant-loop-p l = record {
  few : l.c ≤ l.p;
  list : Front (places_below l.n (in_set l.set) l.p) l.initial.list l.list l.c;
}
