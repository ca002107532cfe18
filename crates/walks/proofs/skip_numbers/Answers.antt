-- `skip_numbers` meets its contract.
use mathlib.Core.Path.{◌≡◌}
use native.Mathlib.Omega.{arith}
use Rattle.walks.specs.WalksLaws.{step-next}
use Rattle.walks.proofs.skip_numbers.Goals as goal

pub loop-i-init : goal.loop-i-init
loop-i-init c = λ l e h. e

pub loop-i-preserved : goal.loop-i-preserved
loop-i-preserved c = let s = c.loop-i in λ l e h. step-next l s.i c.read-spot.ensures (s.invariant l e h) (omega arith)

pub returns : goal.returns
returns c = let s = c.loop-i in let z : s.i ≡ c.args.count = omega arith in λ l e h. rw z at (s.invariant l e h)
