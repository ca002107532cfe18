-- `runs::add_rest` meets its contract: after each turn, the bytes passed of the slot are what the run gives.
use Rattle.std.proofs.Common.{◌∙◌, arith}
use Rattle.runs.specs.GatherLaws.{gathers-none, gathers-on, gathers-as}
use Rattle.runs.proofs.ListedLaws.{same-run}
use Rattle.runs.proofs.add_rest.Goals as goal

pub loop-off-init : goal.loop-off-init
loop-off-init c = record { gathers = gathers-none _ _ _ _ _ _ _ _; inside = omega arith }

pub run_chunk-requires : goal.run_chunk-requires
run_chunk-requires c = let v = c.loop-off.auto in record { slots = same-run v.block v.scratch c.requires.slots; room = omega arith }

pub loop-off-preserved : goal.loop-off-preserved
loop-off-preserved c = record { gathers = gathers-on c.loop-off.invariant.gathers c.run_chunk.ensures; inside = omega arith }

pub loop-off-2-init : goal.loop-off-2-init
loop-off-2-init c = record { gathers = gathers-none _ _ _ _ _ _ _ _; inside = c.loop-off.invariant.inside }

pub run_chunk-requires-in-loop-off-2 : goal.run_chunk-requires-in-loop-off-2
run_chunk-requires-in-loop-off-2 c =
    let v = c.loop-off-2.auto in let u = c.loop-off.auto in
    record { slots = same-run (v.block ∙ u.block) (v.scratch ∙ u.scratch) c.requires.slots; room = omega arith }

pub loop-off-2-preserved : goal.loop-off-2-preserved
loop-off-2-preserved c = record { gathers = gathers-on c.loop-off-2.invariant.gathers c.run_chunk-in-loop-off-2.ensures; inside = omega arith }

pub returns-then-off-s : goal.returns-then-off-s
returns-then-off-s c = gathers-as c.if-off-s.true (gathers-on c.loop-off.invariant.gathers c.loop-off-2.invariant.gathers)

pub run_rest-requires : goal.run_rest-requires
run_rest-requires c =
    let v = c.loop-off-2.auto in let u = c.loop-off.auto in
    record { slots = same-run (v.block ∙ u.block) (v.scratch ∙ u.scratch) c.requires.slots; room = (omega arith, omega arith) }

pub returns : goal.returns
returns c = gathers-on (gathers-on c.loop-off.invariant.gathers c.loop-off-2.invariant.gathers) c.run_rest.ensures
