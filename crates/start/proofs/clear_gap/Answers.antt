-- `start::clear_gap` meets its contract: by the runs without a mark, as one run, or nothing is to be cleared.
use Rattle.std.proofs.Common.{arith}
use Rattle.start.specs.RunBytes.{run-bytes}
use Rattle.start.proofs.ClearLaws.{gap-none, gap_more}
use Rattle.start.proofs.clear_gap.Goals as goal

pub clear-requires : goal.clear-requires
clear-requires c = let a = c.args in let p = c.requires in omega (arith, run-bytes a.low a.high a.high a.s p.order (omega arith), p.bytes)

pub returns-then-low-high : goal.returns-then-low-high
returns-then-low-high c =
    let a = c.args in let p = c.requires in
    rw c.clear.ensures
    (gap_more a.marks.now a.s a.first a.low a.low a.low a.high a.b.now a.b.now (omega arith) (omega arith) p.order p.bytes (λ q h g. absurd (omega arith))
    (gap-none a.marks.now a.s a.first a.low a.b.now))
