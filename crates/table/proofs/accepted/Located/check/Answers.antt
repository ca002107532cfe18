-- `Located::check` meets its contract: check j stands at its start, with its weight.
use mathlib.Core.Path.{◌∙◌}
use Rattle.table.specs.Accepted.{check-fits}
use Rattle.table.specs.Checks.{check}
use Rattle.table.proofs.accepted.Located.check.Goals as goal

pub run-requires : goal.run-requires
run-requires c =
    let l = c.args.self.now in
    check-fits _ _ _ _ l.table.accepted c.args.j c.requires _ _ (c.from-start.ensures ∙ l.starts_at.each c.args.j c.requires) c.from-weight.ensures

pub returns : goal.returns
unfolding check
returns c =
    let l = c.args.self.now in
    rw (← l.starts_at.each c.args.j c.requires, ← c.from-start.ensures, ← c.from-weight.ensures) c.run.ensures
