-- `sums::lowest` meets its contract: by the or of the bytes, or by the search.
use Rattle.sums.proofs.Sums.{lowest-first}
use Rattle.sums.proofs.lowest.Goals as goal

pub returns : goal.returns
returns c = lowest-first c.args.a.now c.first.result c.first.ensures
