-- `compose::unmarked` meets its contract: the places that are left, one after the other.
use Rattle.lists.specs.Lists.{below, rev, minus}
use Rattle.emit.specs.Emit.{marked}
use Rattle.lists.specs.WroteLaws.{Left}
use Rattle.compose.proofs.FreePlaces.{frees}
use Rattle.compose.proofs.unmarked.Given as goal

abbrev pub invariant-loop-p : goal.invariant-loop-p
invariant-loop-p l = Left l.initial.plan l.at (minus (rev (below l.n)) (marked l.used)) (frees l.n l.used l.p) l.plan l.k
