-- `peel::peel_live` meets its contract.
use Rattle.std.proofs.Common.{ℕ, sym, ap, ◌∙◌, subst, length}
use Rattle.peel.specs.Turn.{Fresh}
use Rattle.peel.proofs.KeptLive.{numbers-room, first-ready, first-peeled}
use Rattle.peel.proofs.peel_live.Goals as goal

pub first_tally-requires : goal.first_tally-requires
first_tally-requires c =
    let a = c.args in
    let p = c.requires in
    let e = p.fresh.counts in
    record { counts = sym e; kept = p.kept; fresh = subst (λ (j : ℕ). Fresh a.located.now.table.checks j a.live.now a.count.now a.names.now) e p.fresh }

pub peel_checks-requires : goal.peel_checks-requires
peel_checks-requires c =
    let p = c.requires in
    let f = c.first_tally.ensures in
    let kept = p.kept in
    record { ready = first-ready f p.fresh.counts; total = (kept.count ∙ sym (ap length f.list), (numbers-room kept).1); room = p.room }

pub returns : goal.returns
returns c = first-peeled c.first_tally.ensures c.peel_checks.ensures
