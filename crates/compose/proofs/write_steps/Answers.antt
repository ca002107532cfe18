-- `compose::write_steps` meets its contract: none set aside, or some.
use mathlib.Core.Path.{sym, ap}
use mathlib.Core.List.{map}
use native.Mathlib.Omega.{arith}
use lib.ListN.{length}
use Rattle.plan.specs.Step.{pack}
use Rattle.lists.specs.WroteLaws.{wrote-is}
use Rattle.compose.proofs.Sections.{solved-checks, own-places, steps-none, steps-some}
use Rattle.compose.proofs.write_steps.Goals as goal

pub solve_whole-requires : goal.solve_whole-requires
solve_whole-requires c =
    let p = c.requires.phases in
    let e = ap length (steps-none p c.if-g-eq0.true) in
    record { room = omega (arith, c.requires.room); checks = solved-checks p; own = own-places p }

pub returns-then-g-eq0 : goal.returns-then-g-eq0
returns-then-g-eq0 c = wrote-is c.solve_whole.ensures (ap (map pack) (sym (steps-none c.requires.phases c.if-g-eq0.true)))

pub gap_steps-requires : goal.gap_steps-requires
gap_steps-requires c =
    let e = ap length (steps-some c.requires.phases c.if-g-eq0.false) in
    record { room = omega (arith, c.requires.room); phases = c.requires.phases }

pub returns : goal.returns
returns c = wrote-is c.gap_steps.ensures (ap (map pack) (sym (steps-some c.requires.phases c.if-g-eq0.false)))
