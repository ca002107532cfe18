-- `peel::ones_of` meets its contract: the sum is that of the kept checks from i on.
use Rattle.std.proofs.Common.{◌≡◌, ◌+◌, ◌-◌, ◌∙◌, arith}
use Rattle.table.specs.Accepted.{few-checks, has-weights}
use Rattle.peel.proofs.KeptLive.{ones-start, ones-turn, number_at, number-low, numbers-room}
use Rattle.peel.proofs.ones_of.Goals as goal

pub loop-i-init : goal.loop-i-init
loop-i-init c = record { few = omega arith; ones = ones-start c.requires }

pub bounds-t-from : goal.bounds-t-from
bounds-t-from c =
    let h = has-weights _ _ _ _ c.args.table.now.accepted in
    let low = number-low (c.loop-i.i - 1) c.requires (omega arith) in
    let w = c.from.ensures in
    omega arith

pub overflow_add-sum : goal.overflow_add-sum
overflow_add-sum c =
    let few = few-checks _ _ _ _ c.args.table.now.accepted in
    let r = (numbers-room c.requires).1 in
    let w = c.from-sum.ensures in
    omega (arith, c.type_inv.t (4 + c.from.result))

pub loop-i-preserved : goal.loop-i-preserved
loop-i-preserved c =
    let p = c.requires in
    let s = c.loop-i in
    let n = p.count in
    let w = c.from-sum.ensures in
    let e = c.from.ensures ∙ number_at (s.i - 1) p (omega arith) in
    record {
      few = omega (arith, c.type_inv.t (4 + c.from.result));
      ones = ones-turn _ _ s.i c.from.result s.sum c.from-sum.result (omega arith) (omega arith) e w s.invariant.ones;
    }

pub returns : goal.returns
returns c = let e : c.loop-i.i ≡ 0 = omega arith in rw e at c.loop-i.invariant.ones
