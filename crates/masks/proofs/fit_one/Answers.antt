-- `masks::fit_one` meets its contract.
use Rattle.std.proofs.Common.{arith}
use Rattle.masks.proofs.Scanning.{one-skipped, one-taken}
use Rattle.masks.proofs.fit_one.Goals as goal

pub returns : goal.returns
returns c =
    let less = c.in-Some.ensures.free in
    record { fewer = omega arith; scan = λ f W e s. one-taken c.in-Some.i e s less (c.in-Some.ensures.lowest.sees less) c.tie.ensures }

pub returns-in_default : goal.returns-in_default
returns-in_default c = record { fewer = omega arith; scan = λ f W e s. one-skipped e s (λ i h. c.in_default.ensures.lowest.blind i (omega arith)) }
