-- `eliminate::part_check` meets its contract: the places so far are parted.
use Prim.Native.Nat.{◌≤◌}
use lib.ListN.{take}
use Rattle.bits.specs.Front.{Front}
use Rattle.bits.specs.Row.{RowPut}
use Rattle.decided.specs.Decided.{lost_row}
use Rattle.eliminate.specs.Eliminating.{received_places}
use Rattle.eliminate.proofs.part_check.Given as goal

abbrev pub invariant-loop-p : goal.invariant-loop-p
invariant-loop-p l = record {
  few : l.k ≤ l.p-index;
  row : RowPut l.initial.w l.r (lost_row l.map (take l.p-index l.places)) l.w;
  noted : Front (received_places l.map (take l.p-index l.places)) l.initial.noted l.noted l.k;
}
