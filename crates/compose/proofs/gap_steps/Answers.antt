-- `compose::gap_steps` meets its contract: the four parts, one after the other.
use mathlib.Core.Path.{ap}
use mathlib.Core.List.{map}
use native.Mathlib.Omega.{arith}
use Rattle.table.specs.Accepted.{few-places}
use Rattle.plan.specs.Step.{pack}
use Rattle.rule.proofs.WithinLimits.{aside-width}
use Rattle.emit.specs.Emit.{fitting_rows}
use Rattle.emit.specs.MarkLaws.{below_more}
use Rattle.lists.specs.WroteLaws.{wrote-is}
use Rattle.compose.proofs.Sections.{solved-checks, own-places, set-aside, fitted-below, readable, room-A, room-B, room-C, room-D, all-parts}
use Rattle.compose.proofs.gap_steps.Goals as goal

pub mark-requires : goal.mark-requires
mark-requires c = let p = c.requires.phases in below_more (fitted-below p) (few-places _ _ _ _ p.located.table)

pub solve_all-a-requires : goal.solve_all-a-requires
solve_all-a-requires c =
    let p = c.requires.phases in
    let m = c.mark in
    record { room = room-A p m.new.marks m.ensures c.args.plan.now c.args.at c.requires.room; table = readable p m.new.marks m.ensures; checks = solved-checks p; own = own-places p }

pub set_aside-b-requires : goal.set_aside-b-requires
set_aside-b-requires c =
    let p = c.requires.phases in
    let m = c.mark in
    record { room = room-B p m.new.marks m.ensures c.args.plan.now c.args.at c.requires.room c.solve_all-a.ensures; table = readable p m.new.marks m.ensures; checks = set-aside p; few = aside-width p.few }

pub fit_all-e-requires : goal.fit_all-e-requires
fit_all-e-requires c =
    let p = c.requires.phases in
    let m = c.mark in
    let n = few-places _ _ _ _ p.located.table in
    let e = c.args.located.now.table.accepted.places-are in record { room = rw e (room-C p m.new.marks m.ensures c.args.plan.now c.args.at c.requires.room c.solve_all-a.ensures c.set_aside-b.ensures); places = omega arith; few = aside-width p.few; fitted = rw e (fitted-below p); rows = p.fits.room.1 }

pub solve_whole-requires : goal.solve_whole-requires
solve_whole-requires c =
    let p = c.requires.phases in
    let m = c.mark in
    let f = wrote-is c.fit_all-e.ensures (ap (λ n. map pack (fitting_rows n c.args.g c.args.fitted.now c.args.rows.now 0 c.args.g)) c.args.located.now.table.accepted.places-are) in record { room = room-D p m.new.marks m.ensures c.args.plan.now c.args.at c.requires.room c.solve_all-a.ensures c.set_aside-b.ensures f; checks = solved-checks p; own = own-places p }

pub returns : goal.returns
returns c =
    let p = c.requires.phases in
    let m = c.mark in
    let f = wrote-is c.fit_all-e.ensures (ap (λ n. map pack (fitting_rows n c.args.g c.args.fitted.now c.args.rows.now 0 c.args.g)) c.args.located.now.table.accepted.places-are) in
    all-parts p m.new.marks m.ensures c.args.plan.now c.args.at c.requires.room c.solve_all-a.ensures c.set_aside-b.ensures f c.solve_whole.ensures
