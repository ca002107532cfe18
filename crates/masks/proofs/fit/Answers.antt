-- `masks::fit` meets its contract: `Scan` holds at each turn.
use Rattle.std.proofs.Common.{◌≡◌, ◌+◌, ◌-◌, arith}
use Rattle.masks.proofs.fit.Goals as goal

pub loop-p-init : goal.loop-p-init
loop-p-init c = record { few = omega arith; scan = λ f W e s. s }

pub loop-p-preserved : goal.loop-p-preserved
loop-p-preserved c =
    let l = c.loop-p in
    let r = c.fit_one-free.ensures.fewer in
    let now : l.p ≡ l.p - 1 + 1 = omega arith in record {
      few = omega arith;
      scan = λ f W e s. c.fit_one-free.ensures.scan f W (e (l.p - 1) (omega arith)) (rw now at (l.invariant.scan f W e s));
    }

pub returns : goal.returns
returns c = let e : c.loop-p.p ≡ 0 = omega arith in rw e at c.loop-p.invariant.scan
