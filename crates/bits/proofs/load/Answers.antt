-- `bits::load` meets its contract: the loop has flipped the places so far.
use native.Mathlib.Omega.{arith}
use Rattle.lists.specs.ListLaws.{all-at}
use Rattle.bits.proofs.Loading.{load-turn}
use Rattle.bits.proofs.load.Goals as goal

pub flip-requires : goal.flip-requires
flip-requires c = let l = c.loop-p.invariant.len in (omega arith, rw c.from.ensures (all-at 0 c.requires.1 c.loop-p.p-index c.loop-p-test.true))

pub loop-p-preserved : goal.loop-p-preserved
loop-p-preserved c = load-turn _ c.loop-p.p-index _ c.loop-p-test.true c.from.ensures c.loop-p.invariant c.flip.ensures
