-- `formed::mark_places` meets its contract: what is left of the places decides, and those passed are marked.
use Rattle.std.proofs.Common.{◌≡◌, take, drop}
use Rattle.table.specs.Table.{rising}
use Rattle.plan.specs.LookOver.{Marks}
use Rattle.formed.proofs.mark_places.Given as goal

abbrev pub invariant-loop-p : goal.invariant-loop-p
invariant-loop-p l = record {
  rises : rising l.n 0 l.p-items ≡ rising l.n l.low (drop l.p-index l.p-items);
  marked : Marks (take l.p-index l.p-items) l.marks;
}
