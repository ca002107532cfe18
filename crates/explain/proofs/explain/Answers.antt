-- `explain::explain` meets its contract.
use Prim.Native.Nat.{◌+◌, ◌-◌}
use mathlib.Core.Path.{◌≡◌, ap}
use native.Mathlib.Omega.{arith}
use lib.ListN.{length-take}
use Rattle.lists.specs.ListLaws.{get_d-zeros}
use Rattle.bits.specs.Row.{above}
use Rattle.rows.specs.LeadsLaws.{owners-kept}
use Rattle.table.specs.Accepted.{few-places, few-checks}
use Rattle.explain.proofs.Telling.{few-used, place-owners, noted-led, tells-restored, tells-lost}
use Rattle.explain.proofs.explain.Goals as goal

pub take_checks-k-requires : goal.take_checks-k-requires
take_checks-k-requires c =
    let p = c.requires in
    let few = few-checks _ _ _ _ c.args.table.now.accepted in
    let nar = few-places _ _ _ _ c.args.table.now.accepted in
    record { lost = p.lost; room = (omega arith, p.room.0, omega arith, omega arith); unowned = get_d-zeros 1024 }

pub list_checks-length-requires : goal.list_checks-length-requires
list_checks-length-requires c =
    let ok = c.args.table.now.accepted in
    let few = few-checks _ _ _ _ ok in
    let nar = few-places _ _ _ _ ok in
    let p = c.requires in
    let z = c.take_checks-k.ensures in
    let us = few-used _ _ _ _ ok c.args.lost.now z in
    let room = p.room.0 in
    let big = p.room.1 in
    let l = length-take c.take_checks-k.result c.take_checks-k.new.ids in
    record { room = (omega arith, omega arith, omega arith); led = noted-led _ _ _ _ ok c.args.lost.now z c.args.place p.place.0 p.place.1 (omega arith) c.reduce_place-r.ensures.path }

pub list_places-length-requires-clause-rows : goal.list_places-length-requires-clause-rows
list_places-length-requires-clause-rows c =
    let kept = owners-kept (place-owners _ _ _ _ c.args.table.now.accepted c.args.lost.now c.take_checks-k.ensures (omega arith)) c.reduce_place-r.ensures.row.put in
    (kept.room, kept.lead)

pub returns-in-None : goal.returns-in-None
returns-in-None c =
    let ok = c.args.table.now.accepted in
    let p = c.requires in
    let nar = few-places _ _ _ _ ok in
    let z = c.take_checks-k.ensures in
    let r = c.reduce_place-r.ensures in
    tells-restored _ _ _ _ ok c.args.lost.now z c.args.place p.place.0 p.place.1 (omega arith) (place-owners _ _ _ _ ok c.args.lost.now z (omega arith)) r.row (ap above c.in-None.is) r.path c.list_checks-length.ensures.list

pub returns-in-Some : goal.returns-in-Some
returns-in-Some c =
    let ok = c.args.table.now.accepted in
    let p = c.requires in
    let nar = few-places _ _ _ _ ok in
    let z = c.take_checks-k.ensures in
    let i : c.in-Some.f + 1 - 1 ≡ c.in-Some.f = omega arith in
    let r = rw c.in-Some.is at c.reduce_place-r.ensures.row in
    tells-lost _ _ _ _ ok c.args.lost.now z c.args.place p.place.0 p.place.1 (omega arith) (place-owners _ _ _ _ ok c.args.lost.now z (omega arith)) r (omega arith) (rw i c.list_places-length.ensures.list)
