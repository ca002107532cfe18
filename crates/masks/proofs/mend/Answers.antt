-- `masks::mend` meets its contract: i masks are mended.
use Rattle.std.proofs.Common.{◌≡◌, arith}
use Rattle.masks.proofs.Masks.{part_none, part-turn, part-all}
use Rattle.masks.proofs.mend.Goals as goal

pub loop-i-init : goal.loop-i-init
loop-i-init c = part_none _ _ _

pub loop-i-preserved : goal.loop-i-preserved
loop-i-preserved c = let l = c.loop-i.invariant.len in part-turn c.loop-i.i _ _ (omega arith) c.mend_one.ensures c.loop-i.invariant

pub returns : goal.returns
returns c =
    let s = c.loop-i in
    let e : s.i ≡ c.args.g = omega arith in
    part-all (rw e at s.invariant)
