-- `start::clear_gaps` meets its contract: the gaps before the information places that are passed are done.
use Rattle.std.proofs.Common.{◌≡◌, ◌<◌, arith}
use native.Mathlib.Nat.{mul-le-mul_right}
use Rattle.plan.specs.Layout.{plan_places, info_in, info_count}
use Rattle.plan.specs.LayoutLaws.{well, info-below, info-length}
use Rattle.start.proofs.ClearLaws.{gaps-none, gaps-more}
use Rattle.start.proofs.GapLaws.{behind-le}
use Rattle.start.proofs.clear_gaps.Goals as goal

pub loop-place-init : goal.loop-place-init
loop-place-init c = let a = c.args in let w = a.plan.now.words.now in gaps-none w (well w a.plan.now.formed) a.marks.now a.s a.block.now

pub clear_gap-requires : goal.clear_gap-requires
clear_gap-requires c =
    let a = c.args in let p = c.requires in let w = a.plan.now.words.now in let f = well w a.plan.now.formed in let l = c.loop-place in let i = l.place-index in
    let few : i < info_count w = omega (arith, rw c.info-place-items.ensures at c.loop-place-test.true, info-length w f) in
    let below = info-below w f i few in
    let m = mul-le-mul_right a.s below in
    rw c.info-place-items.ensures record {
      bytes = omega (arith, p.block, l.auto.block);
      marks = omega (arith, p.marks);
      order = omega (arith, l.invariant.upto, behind-le (plan_places w) (info_in w) f.rises i (omega (arith, info-length w f)));
    }

pub loop-place-preserved : goal.loop-place-preserved
loop-place-preserved c =
    let a = c.args in let w = a.plan.now.words.now in let f = well w a.plan.now.formed in let l = c.loop-place in let e = c.info-place-items.ensures in
    let few : l.place-index < info_count w = omega (arith, rw e at c.loop-place-test.true, info-length w f) in
    rw e (gaps-more w f a.marks.now a.s a.block.now l.place-index l.low l.block _ few l.invariant (rw e at c.clear_gap.ensures))

pub returns : goal.returns
returns c =
    let w = c.args.plan.now.words.now in let f = well w c.args.plan.now.formed in let l = c.loop-place in
    let e : l.place-index ≡ info_count w = omega (arith, rw c.info-place-items.ensures at c.loop-place-test.false, rw c.info-place-items.ensures at l.auto.place-index-end, info-length w f) in
    rw e at l.invariant
