-- `sums::or_chunk` meets its contract: what was gathered from zeros is the part of the sum.
use mathlib.Core.Path.{sym, ◌∙◌}
use Rattle.sums.proofs.Sums.{chunk_of, or-piece}
use Rattle.sums.proofs.or_chunk.Goals as goal

pub gather-requires : goal.gather-requires
gather-requires c = (c.requires.0, c.requires.1.0)

pub or_into-requires : goal.or_into-requires
or_into-requires c = c.requires.1.1 ∙ sym c.gather.auto.acc

pub shape_of-o : goal.shape_of-o
shape_of-o c = c.or_into.auto.o

pub returns : goal.returns
returns c = let g = c.gather in
    or-piece _ _ _ _ g.auto.acc (chunk_of _ _ _ _ _ c.requires.0 _ c.requires.1.0 g.ensures) c.or_into.ensures
