-- `packets::gather_others` meets its contract: after some turns, the parts of the other ones of as many places are added.
use mathlib.Core.Path.{◌≡◌}
use native.Mathlib.Omega.{arith}
use lib.ListN.{take}
use lib.Seq.{take_all}
use Rattle.packets.specs.GivenLaws.{as-check, here}
use Rattle.packets.specs.PlaceLaws.{place-room}
use Rattle.table.specs.GatherLaws.{gathered_none}
use Rattle.packets.proofs.Gathering.{place_same, place_other}
use Rattle.packets.proofs.gather_others.Goals as goal
use Rattle.packets.proofs.gather_others.Goals.{then-q-skip, else-q-skip}

pub loop-q-init : goal.loop-q-init
loop-q-init c = gathered_none _ _ _ _ c.requires.1

pub overflow_mul-q : goal.overflow_mul-q
overflow_mul-q c = omega (arith, place-room _ _ _ _ _ _ _ (as-check _ _ _ _ c.requires.0) _ _ _ c.requires.1 c.loop-q-test.true (here c.args.places.now c.loop-q.q-index c.from-q.result c.from-q.ensures))

pub overflow_add-q : goal.overflow_add-q
overflow_add-q c = omega (arith, place-room _ _ _ _ _ _ _ (as-check _ _ _ _ c.requires.0) _ _ _ c.requires.1 c.loop-q-test.true (here c.args.places.now c.loop-q.q-index c.from-q.result c.from-q.ensures))

pub add_from-requires : goal.add_from-requires
add_from-requires c = (omega (arith, c.loop-q.invariant.len), place-room _ _ _ _ _ _ _ (as-check _ _ _ _ c.requires.0) _ _ _ c.requires.1 c.loop-q-test.true (here c.args.places.now c.loop-q.q-index c.from-q.result c.from-q.ensures))

pub loop-q-preserved : goal.loop-q-preserved
loop-q-preserved c =
    let l = c.loop-q in
    let h = c.loop-q-test.true in
    let q = c.from-q in
    elim c.if-q-skip.branch [
      | then-q-skip u ↦ place_other _ _ _ _ _ c.requires.0 _ _ _ _ _ l.q-index q.result c.requires.1 h q.ensures u.if-q-skip.true l.invariant u.add_from.ensures u.acc-is
      | else-q-skip u ↦ place_same _ _ _ _ _ c.requires.0 _ _ _ _ l.q-index q.result h q.ensures u.if-q-skip.false l.invariant u.acc-is
    ]

pub shape_of-acc : goal.shape_of-acc
shape_of-acc c = c.loop-q.invariant.len

pub returns : goal.returns
returns c =
    let e : take c.loop-q.q-index c.args.places.now ≡ c.args.places.now = take_all _ _ c.loop-q-test.false in
    rw e at c.loop-q.invariant.is
