-- `explain::reduce_place` meets its contract.
use native.Mathlib.Omega.{arith}
use Rattle.bits.specs.Front.{front-is}
use Rattle.gf2.specs.Settling.{pow-short}
use Rattle.reasons.specs.Mirror.{mirror, mirror-lt}
use Rattle.rows.specs.LeadsLaws.{lowered-as, put-reducible, put-path}
use Rattle.explain.proofs.Telling.{one_place}
use Rattle.explain.proofs.reduce_place.Goals as goal

pub clear-requires : goal.clear-requires
clear-requires c = let p = c.requires.rows.1 in omega arith

pub bit_of-requires : goal.bit_of-requires
bit_of-requires c = c.requires.room.3

pub flip-requires : goal.flip-requires
flip-requires c = let p = c.requires in let room = p.rows.1 in let low = p.room.3 in let few = p.room.0 in let l = c.clear.ensures.len in let b = c.bit_of.ensures in (omega arith, omega arith)

pub reduce-requires : goal.reduce-requires
reduce-requires c =
    let a = c.args in
    let p = c.requires in
    let room = p.rows.1 in
    record { rows = put-reducible p.rows.0 (one_place (mirror a.n a.place) _ c.bit_of.ensures c.clear.ensures c.flip.ensures) a.n (pow-short (mirror a.n a.place) a.n (mirror-lt a.n a.place p.room.3)) (omega arith) p.room.0 p.room.1; room = p.room.2 }

pub returns : goal.returns
returns c =
    let a = c.args in
    let p = c.requires in
    let d = one_place (mirror a.n a.place) _ c.bit_of.ensures c.clear.ensures c.flip.ensures in
    let r = c.reduce.ensures in
    record { row = lowered-as p.rows.0 d r.row; path = front-is r.path (put-path p.rows.0 d a.n) }
