-- `numbers::take_digits` meets its contract. The loop's invariant: d digits of value v stand from at to i.
use mathlib.Core.Path.{◌≡◌}
use Prim.Native.Nat.{◌+◌, ◌-◌, ◌^◌, ◌≤◌, ◌<◌}
use lib.ListN.{length, drop}
use Rattle.numbers.specs.Steps.{numbers_from}
use Rattle.numbers.proofs.take_digits.Given as goal

abbrev pub invariant-loop-i : goal.invariant-loop-i
invariant-loop-i l = (l.d ≤ 6) × (l.value < 10 ^ l.d) × (l.i ≡ l.at + l.d) × (numbers_from 0 0 (drop l.at l.text) ≡ numbers_from l.d l.value (drop l.i l.text))

abbrev pub decreases-loop-i : goal.decreases-loop-i
decreases-loop-i l = length l.text - l.i
