-- `sums::gather` meets its contract: after some turns, the parts of as many places are added.
use mathlib.Core.Path.{◌≡◌}
use native.Mathlib.Omega.{arith}
use lib.ListN.{take}
use lib.Seq.{take_all}
use Rattle.packets.specs.GivenLaws.{as-check, here}
use Rattle.packets.specs.PlaceLaws.{place-room}
use Rattle.table.specs.GatherLaws.{gathered_none}
use Rattle.sums.proofs.Sums.{next_place}
use Rattle.sums.proofs.gather.Goals as goal

pub loop-p-init : goal.loop-p-init
loop-p-init c = gathered_none _ _ _ _ c.requires.1

pub overflow_mul-from : goal.overflow_mul-from
overflow_mul-from c = omega (arith, place-room _ _ _ _ _ _ _ (as-check _ _ _ _ c.requires.0) _ _ _ c.requires.1 c.loop-p-test.true (here c.args.places.now c.loop-p.p-index c.from.result c.from.ensures))

pub overflow_add-from : goal.overflow_add-from
overflow_add-from c = omega (arith, place-room _ _ _ _ _ _ _ (as-check _ _ _ _ c.requires.0) _ _ _ c.requires.1 c.loop-p-test.true (here c.args.places.now c.loop-p.p-index c.from.result c.from.ensures))

pub add_from-requires : goal.add_from-requires
add_from-requires c = (
  omega (arith, c.loop-p.invariant.len),
  place-room _ _ _ _ _ _ _ (as-check _ _ _ _ c.requires.0) _ _ _ c.requires.1 c.loop-p-test.true (here c.args.places.now c.loop-p.p-index c.from.result c.from.ensures),
)

pub loop-p-preserved : goal.loop-p-preserved
loop-p-preserved c = next_place _ _ _ _ _ c.requires.0 _ _ _ _ _ c.requires.1 c.loop-p-test.true c.from.ensures c.loop-p.invariant c.add_from.ensures

pub shape_of-acc : goal.shape_of-acc
shape_of-acc c = c.loop-p.invariant.len

pub returns : goal.returns
returns c =
    let e : take c.loop-p.p-index c.args.places.now ≡ c.args.places.now = take_all _ _ c.loop-p-test.false in
    rw e at c.loop-p.invariant.is
