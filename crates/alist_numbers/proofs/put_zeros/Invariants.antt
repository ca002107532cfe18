-- `put_zeros` meets its contract: what is left to put are the zeros left.
use Prim.Native.Nat.{◌+◌, ◌-◌, ◌*◌, ◌≤◌}
use lib.Dec.{eqb}
use lib.ListN.{replicate}
use Rattle.alist_numbers.specs.Put.{Put, numbers_on}
use Rattle.alist_numbers.specs.PutLaws.{Part}
use Rattle.alist_numbers.proofs.put_zeros.Given as goal

abbrev pub invariant-loop-i : goal.invariant-loop-i
invariant-loop-i l =
    (l.next + 5 * (l.most - l.i) ≤ l.at + 5120)
    × Part (λ x. Put l.initial.text l.at (numbers_on (eqb l.at l.start) x) l.text l.next) (replicate (l.most - l.k) 0) (replicate (l.most - l.i) 0)
