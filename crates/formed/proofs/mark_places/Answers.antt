-- `formed::mark_places` meets its contract: one more place is marked.
use Rattle.std.proofs.Common.{◌∙◌, arith}
use Rattle.formed.proofs.Marking.{place-on, mark-more}
use Rattle.formed.proofs.mark_places.Goals as goal

pub loop-p-preserved : goal.loop-p-preserved
loop-p-preserved c = let I = c.info-p-items.result.now in let i = c.loop-p.p-index in record {
  rises = c.loop-p.invariant.rises ∙ place-on c.args.n c.loop-p.low I i (omega arith) (omega arith) (omega arith);
  marked = mark-more I _ i (omega arith) c.loop-p.invariant.marked;
}
