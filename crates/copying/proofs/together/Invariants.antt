-- `copying::together` meets its contract: the places passed follow each other.
use Rattle.std.proofs.Common.{length}
use Rattle.start.specs.Start.{Together}
use Rattle.copying.proofs.together.Given as goal

abbrev pub invariant-loop-r : goal.invariant-loop-r
invariant-loop-r l = Together l.info l.k (length l.info) l.r
