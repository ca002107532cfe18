-- `rows::reduce` meets its contract: `Lowering` holds at each turn.
use Rattle.bits.specs.Row.{above}
use Rattle.rows.proofs.Lowering.{Lowering}
use Rattle.rows.proofs.reduce.Given as goal

abbrev pub invariant-loop-lead : goal.invariant-loop-lead
invariant-loop-lead l = Lowering l.initial.w l.owner l.k l.n l.initial.noted l.w l.noted l.count (above l.lead)

abbrev pub decreases-loop-lead : goal.decreases-loop-lead
decreases-loop-lead l = above l.lead
