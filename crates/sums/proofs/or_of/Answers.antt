-- `sums::or_of` meets its contract: where the or is zero, the bytes passed are.
use native.Mathlib.Omega.{arith}
use borrow.Author.Count.{below_more}
use Rattle.table.specs.SumLaws.{lowest-is}
use Rattle.sums.proofs.Sums.{or_left, or_right}
use Rattle.sums.proofs.or_of.Goals as goal

pub loop-x-preserved : goal.loop-x-preserved
loop-x-preserved c = λ e. below_more _ _ (c.loop-x.invariant (or_left _ _ e)) (or_right c.loop-x.o _ e)

pub returns : goal.returns
returns c = λ e. lowest-is _ _ (omega arith) (λ k h. c.loop-x.invariant e k (omega arith)) (λ h. absurd (omega arith))
