-- `sums::lowest_in_chunk` meets its contract: what was gathered from zeros is the part of the sum.
use Rattle.sums.proofs.Sums.{chunk_of}
use Rattle.sums.proofs.lowest_in_chunk.Goals as goal

pub returns : goal.returns
returns c =
    let e = chunk_of _ _ _ _ _ c.requires.0 _ c.requires.1 c.gather.ensures in
    rw e at c.lowest.ensures
