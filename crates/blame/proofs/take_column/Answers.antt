-- `blame::take_column` meets its contract.
use native.Mathlib.Omega.{arith}
use Rattle.blame.proofs.Copying.{filled-column}
use Rattle.blame.proofs.take_column.Goals as goal

pub returns : goal.returns
returns c =
    let l = c.loop-p in
    let a = c.args in
    let end = c.loop-p-test.false in
    filled-column a.block.now l.column a.table.now.places a.table.now.size a.byte l.invariant.0 c.requires.2 (λ k h. l.invariant.1 k (omega arith))
