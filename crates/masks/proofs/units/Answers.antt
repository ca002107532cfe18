-- `masks::units` meets its contract: i masks are units.
use Rattle.std.proofs.Common.{◌≡◌, arith}
use Rattle.masks.proofs.Masks.{units-more}
use Rattle.masks.specs.DotLaws.{unit-word}
use Rattle.masks.proofs.units.Goals as goal

pub loop-i-preserved : goal.loop-i-preserved
loop-i-preserved c = units-more c.loop-i.masks c.loop-i.i _ (omega arith) (unit-word c.loop-i.i (omega arith)) c.loop-i.invariant

pub returns : goal.returns
returns c =
    let s = c.loop-i in
    let e : s.i ≡ c.args.g = omega arith in
    record { each = rw e at s.invariant }
