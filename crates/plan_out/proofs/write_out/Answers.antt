-- `plan_out::write_out` meets its contract: the places fitted, and the plan composed.
use native.Mathlib.Omega.{arith}
use Rattle.freed.specs.Locating.{located_own}
use Rattle.plan_out.proofs.Writing.{fit-ready, plan-ready, number-kept, kept-fits, ones-fit, length-fits, adds_fit, written_out}
use Rattle.plan_out.proofs.write_out.Goals as goal

pub fit_places-requires : goal.fit_places-requires
fit_places-requires c =
    let p = c.requires in
    let l = c.args.located.now in
    let d = located_own l.table.accepted l.starts_at in
    let few = p.few in
    record { ready = fit-ready d p.choice p.few l.table.accepted.number_is l.table.accepted.places-are; fitted = omega arith; rows = omega arith }

pub write_plan-w-requires : goal.write_plan-w-requires
write_plan-w-requires c =
    let p = c.requires in
    let l = c.args.located.now in
    let d = located_own l.table.accepted l.starts_at in
    record { phases = plan-ready d p.choice p.few l.table.accepted.number_is l.table.accepted.places-are c.fit_places.ensures; kept = number-kept d p.choice p.few; room = p.room }

pub overflow_cast-result : goal.overflow_cast-result
overflow_cast-result c =
    let p = c.requires in
    let l = c.args.located.now in
    let d = located_own l.table.accepted l.starts_at in
    let e = length-fits d p.choice p.few c.write_plan-w.ensures in
    omega arith

pub overflow_cast-result-2 : goal.overflow_cast-result-2
overflow_cast-result-2 c =
    let p = c.requires in
    let l = c.args.located.now in
    let d = located_own l.table.accepted l.starts_at in
    let e = kept-fits d p.choice p.few in
    omega arith

pub overflow_cast-result-3 : goal.overflow_cast-result-3
overflow_cast-result-3 c =
    let p = c.requires in
    let l = c.args.located.now in
    let d = located_own l.table.accepted l.starts_at in
    let e = ones-fit d p.choice p.few in
    omega arith

pub overflow_cast-result-5 : goal.overflow_cast-result-5
overflow_cast-result-5 c =
    let p = c.requires in
    let l = c.args.located.now in
    let d = located_own l.table.accepted l.starts_at in
    let e = adds_fit d p.choice p.few c.write_plan-w.ensures in
    omega arith

pub returns : goal.returns
returns c =
    let p = c.requires in
    let l = c.args.located.now in
    let d = located_own l.table.accepted l.starts_at in
    let q = written_out d p.choice p.few c.write_plan-w.ensures in
    record { answer = q.0; plan = q.1 }
