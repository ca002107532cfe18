-- `put_stair` meets its contract: one place, or two.
use native.Mathlib.Omega.{arith}
use Rattle.staircase.proofs.StairRows.{stair-one, stair-two}
use Rattle.staircase.proofs.put_stair.Goals as goal

pub returns-then-i-gt0 : goal.returns-then-i-gt0
returns-then-i-gt0 c = stair-two c.args.k c.flip.ensures (omega arith) c.flip-then-i-gt0.ensures

pub returns-else-i-gt0 : goal.returns-else-i-gt0
returns-else-i-gt0 c = stair-one c.args.k c.flip.ensures (omega arith)
