-- `bits::highest` meets its contract: the loop has passed over the words from j on.
use Rattle.bits.proofs.TopWord.{short-word, bits-word}
use mathlib.Core.Path.{refl}
use native.Mathlib.Omega.{arith}
use Rattle.bits.proofs.highest.Goals as goal

pub returns-then-x-ne0 : goal.returns-then-x-ne0
returns-then-x-ne0 c =
    let s = c.loop-j in
    let i = c.ilog2.ensures in
    bits-word c.args.w.now c.args.r s.j c.ilog2.result _ (omega arith) (omega arith) refl i.bound i.power_le i.next_power_gt s.invariant

pub loop-j-preserved : goal.loop-j-preserved
loop-j-preserved c = short-word c.args.w.now c.args.r c.loop-j.j (omega arith) (omega arith) (omega arith) c.loop-j.invariant
