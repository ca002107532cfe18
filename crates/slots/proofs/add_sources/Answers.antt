-- `slots::add_sources` meets its contract: the parts of the slots that are passed are added.
use lib.Seq.{take_all}
use Rattle.slots.proofs.PartLaws.{parts_none, parts_more, parts-as, take_more}
use native.Mathlib.Omega.{arith}
use Rattle.slots.proofs.add_sources.Goals as goal

pub loop-m-init : goal.loop-m-init
loop-m-init c = parts_none c.requires.room

pub add_part-requires : goal.add_part-requires
add_part-requires c =
    let p = c.requires in
    record { slot = rw c.from.ensures (p.slots.each c.loop-m.m c.loop-m-test.true); room = omega arith }

pub loop-m-preserved : goal.loop-m-preserved
loop-m-preserved c =
    let a = c.args in
    let l = c.loop-m in
    parts-as (take_more a.sources.now l.m c.loop-m-test.true) (parts_more l.auto.acc l.invariant (rw c.from.ensures at c.add_part.ensures))

pub returns : goal.returns
returns c = let l = c.loop-m in parts-as (take_all l.m c.args.sources.now (omega arith)) l.invariant
