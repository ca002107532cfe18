-- `turn_check` meets its contract: place after place.
use Prim.Native.Nat.{◌<◌}
use native.Mathlib.Omega.{arith}
use lib.ListN.{take}
use lib.Seq.{take_all}
use mathlib.Core.Path.{◌≡◌}
use Rattle.lists.specs.ListLaws.{all-at}
use Rattle.alist_bits.proofs.Turning.{flipped-none, flipped-more}
use Rattle.alist_bits.proofs.turn_check.Goals as goal

pub loop-p-init : goal.loop-p-init
loop-p-init c = flipped-none _ _

pub flip-requires : goal.flip-requires
flip-requires c =
    let h : c.from.result < 1024 = rw c.from.ensures (all-at 0 c.requires.2 c.loop-p.p-index c.loop-p-test.true) in
    let l = c.loop-p.invariant.len in
    (omega arith, omega arith)

pub loop-p-preserved : goal.loop-p-preserved
loop-p-preserved c = flipped-more c.args.places.now c.loop-p.p-index _ c.loop-p-test.true c.from.ensures c.loop-p.invariant c.flip.ensures

pub shape_of-columns : goal.shape_of-columns
shape_of-columns c = c.loop-p.invariant.len

pub returns : goal.returns
returns c =
    let e : take c.loop-p.p-index c.args.places.now ≡ c.args.places.now = take_all _ _ c.loop-p-test.false in
    rw e at c.loop-p.invariant
