-- `put_lists` meets its contract: what is left to put are the lists of the rows left.
use mathlib.Core.List.{map}
use Prim.Native.Nat.{◌+◌, ◌-◌, ◌*◌, ◌≤◌}
use Rattle.making.specs.Rows.{rows_from}
use Rattle.alist.specs.AlistText.{number_lines, rows_of, padded}
use Rattle.alist_numbers.specs.Put.{Put}
use Rattle.alist_lines.specs.Lines.{padded_lists}
use Rattle.alist_numbers.specs.PutLaws.{Part}
use Rattle.alist_lines.proofs.put_lists.Given as goal

abbrev pub invariant-loop-c : goal.invariant-loop-c
invariant-loop-c l =
    (l.c ≤ l.count)
    × (l.next ≤ l.at + 10241 * l.c)
    × Part (λ ls. Put l.initial.text l.at (number_lines ls) l.text l.next) (padded_lists l.w l.count l.most) (map (padded l.most) (rows_of (rows_from l.w l.count l.c)))

abbrev pub decreases-loop-c : goal.decreases-loop-c
decreases-loop-c l = l.count - l.c
