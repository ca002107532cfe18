-- `repair::repair_packets` meets its contract.
use mathlib.Core.Path.{refl}
use native.Mathlib.Omega.{arith}
use Rattle.repair.proofs.Answering.{answer-accepted, answer-contradicted, answer-blamed, cleared, byte_inside, without-asks}
use Rattle.repair.proofs.repair_packets.Goals as goal

pub only_suspect-requires-clause-block : goal.only_suspect-requires-clause-block
only_suspect-requires-clause-block c = let a = c.args in cleared a.table.now.words.now a.block.now a.map.now c.requires _ _ _ c.in-Err.ensures refl _ _ _ a.table.now.accepted (omega arith)

pub only_suspect-requires-clause-byte : goal.only_suspect-requires-clause-byte
only_suspect-requires-clause-byte c = let a = c.args in omega (arith, byte_inside a.table.now.words.now a.block.now a.map.now c.requires _ _ _ c.in-Err.ensures refl, a.table.now.accepted.size_is)

pub repair_without-requires-clause-place : goal.repair_without-requires-clause-place
repair_without-requires-clause-place c =
    let a = c.args in
    let o = c.in-Some.ensures in
    (without-asks a.table.now.words.now a.block.now a.map.now c.requires _ _ _ c.in-Err.ensures refl _ _ _ a.table.now.accepted (omega arith) _ o.only _ _ o.block o.map).1.0

pub repair_without-requires-clause-agrees : goal.repair_without-requires-clause-agrees
repair_without-requires-clause-agrees c =
    let a = c.args in
    let o = c.in-Some.ensures in
    (without-asks a.table.now.words.now a.block.now a.map.now c.requires _ _ _ c.in-Err.ensures refl _ _ _ a.table.now.accepted (omega arith) _ o.only _ _ o.block o.map).1.1

pub returns-in-Ok : goal.returns-in-Ok
returns-in-Ok c = let a = c.args in answer-accepted a.table.now.words.now a.block.now a.map.now c.requires _ _ _ c.in-Ok.ensures refl _ refl refl

pub returns-in-None : goal.returns-in-None
returns-in-None c =
    let a = c.args in
    let o = c.in-None.ensures in
    answer-contradicted a.table.now.words.now a.block.now a.map.now c.requires _ _ _ c.in-Err.ensures refl o.only _ _ o.block o.map _ refl refl

pub returns-in-Some : goal.returns-in-Some
returns-in-Some c =
    let a = c.args in
    let o = c.in-Some.ensures in
    answer-blamed a.table.now.words.now a.block.now a.map.now c.requires _ _ _ c.in-Err.ensures refl _ o.only _ _ o.block o.map _ _ _ c.repair_without.ensures
