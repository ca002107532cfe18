-- `put_weights` meets its contract: what is left to put are the weights of the rows left.
use mathlib.Core.List.{map}
use Prim.Native.Nat.{◌+◌, ◌-◌, ◌*◌, ◌≤◌}
use lib.Dec.{eqb}
use lib.ListN.{length}
use Rattle.bits.specs.Row.{rows_in}
use Rattle.making.specs.Rows.{rows_from}
use Rattle.alist_numbers.specs.Put.{Put, numbers_on}
use Rattle.alist_numbers.specs.PutLaws.{Part}
use Rattle.alist_lines.proofs.put_weights.Given as goal

abbrev pub invariant-loop-c : goal.invariant-loop-c
invariant-loop-c l =
    (l.c ≤ l.count)
    × (l.next ≤ l.at + 5 * l.c)
    × Part (λ x. Put l.initial.text l.at (numbers_on (eqb l.at l.at) x) l.text l.next) (map length (rows_in l.w l.count)) (map length (rows_from l.w l.count l.c))

abbrev pub decreases-loop-c : goal.decreases-loop-c
decreases-loop-c l = l.count - l.c
