-- `numbers::skip` meets its contract. The loop's invariant: from at to i there are only blanks and line ends.
use mathlib.Core.Path.{◌≡◌}
use Prim.Native.Nat.{◌-◌}
use lib.ListN.{length, drop}
use Rattle.numbers.specs.Steps.{numbers_from}
use Rattle.numbers.proofs.skip.Given as goal

abbrev pub invariant-loop-i : goal.invariant-loop-i
invariant-loop-i l = numbers_from 0 0 (drop l.at l.text) ≡ numbers_from 0 0 (drop l.i l.text)

abbrev pub decreases-loop-i : goal.decreases-loop-i
decreases-loop-i l = length l.text - l.i
