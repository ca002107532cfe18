-- `numbers::count` meets its contract. The loop's invariant: k numbers ended and d digits of another were seen in the bytes passed.
use Rattle.std.proofs.Common.{◌+◌, ◌≤◌}
use Rattle.numbers.specs.Counting.{ends_here}
use Rattle.numbers.proofs.Laws.{Passed}
use Rattle.numbers.proofs.count.Given as goal

abbrev pub invariant-loop-byte : goal.invariant-loop-byte
invariant-loop-byte l = (l.d ≤ 6) × (l.k + ends_here l.d 0 ≤ l.byte-index) × Passed l.text l.k l.d l.byte-index
