-- `compose::write_plan` meets its contract: the three sections, one after the other.
use native.Mathlib.Omega.{arith}
use Rattle.table.specs.Accepted.{few-places}
use Rattle.compose.proofs.Sections.{own-places, fitted-below}
use Rattle.compose.proofs.WholePlan.{head-fits, info-room, steps-room, steps-few, steps-end, clears-count, taken-few, composed}
use Rattle.compose.proofs.write_plan.Goals as goal

pub write_head-requires : goal.write_head-requires
write_head-requires c = head-fits c.requires.phases c.requires.kept c.requires.room c.args.located.now.table.accepted.places-are

pub info_section-k-requires : goal.info_section-k-requires
info_section-k-requires c =
    let ph = c.requires.phases in
    let e = c.args.located.now.table.accepted.places-are in
    record { room = info-room c.requires.phases c.args.plan.now c.requires.room c.args.located.now.table.accepted.places-are c.write_head.ensures; own = rw e (own-places ph); fitted = rw e (fitted-below ph); places = rw e (few-places _ _ _ _ ph.located.table) }

pub step_section-e-requires : goal.step_section-e-requires
step_section-e-requires c =
    record { room = steps-room c.requires.phases c.args.plan.now c.requires.room c.args.located.now.table.accepted.places-are c.write_head.ensures c.info_section-k.ensures; phases = c.requires.phases; few = steps-few c.requires.phases }

pub clears-requires : goal.clears-requires
clears-requires c = let p = c.requires in record { taken = taken-few p.phases; few = p.phases.few }

pub overflow_sub-result-3 : goal.overflow_sub-result-3
overflow_sub-result-3 c =
    let e = steps-end c.requires.phases c.args.plan.now c.requires.room c.args.located.now.table.accepted.places-are c.write_head.ensures c.info_section-k.ensures c.step_section-e.ensures in
    let n = clears-count c.requires.phases in
    let cl = c.clears.ensures in
    omega arith

pub returns : goal.returns
returns c =
    let e = steps-end c.requires.phases c.args.plan.now c.requires.room c.args.located.now.table.accepted.places-are c.write_head.ensures c.info_section-k.ensures c.step_section-e.ensures in
    let n = clears-count c.requires.phases in
    let cl = c.clears.ensures in
    composed c.requires.phases c.args.plan.now c.requires.room c.args.located.now.table.accepted.places-are c.write_head.ensures c.info_section-k.ensures c.step_section-e.ensures c.requires.kept (omega arith)
