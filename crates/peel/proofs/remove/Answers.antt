-- `peel::remove` meets its contract.
use Rattle.table.specs.Accepted.{few-checks}
use Rattle.live.specs.TurnLaws.{check-apart, check-low}
use Rattle.peel.proofs.Turns.{in-flag, counted, removed}
use Rattle.peel.proofs.ScanBound.{calm-less}
use native.Mathlib.Omega.{arith}
use Rattle.peel.proofs.remove.Goals as goal

pub check-places-requires : goal.check-places-requires
check-places-requires c = (in-flag _ _ _ c.requires.live).0

pub bounds-live-j : goal.bounds-live-j
bounds-live-j c = omega (arith, (in-flag _ _ _ c.requires.live).0, c.requires.ready.flags)

pub overflow_cast-j : goal.overflow_cast-j
overflow_cast-j c = omega (arith, (in-flag _ _ _ c.requires.live).0, few-checks _ _ _ _ c.args.located.now.table.accepted)

pub forget-requires : goal.forget-requires
forget-requires c =
    let p = c.requires in
    let a = c.args.located.now.table.accepted in
    let f = (in-flag _ _ _ p.live).0 in
    rw c.check-places.ensures (record { places = rw p.counts (check-low a c.args.j f); apart = check-apart a c.args.j f; names = p.ready.named; live = counted _ c.args.j p.ready.tally p.live })

pub raise-requires : goal.raise-requires
raise-requires c =
    let p = c.requires in
    let l = c.forget.auto.count in
    let top = p.calm.most in
    rw (c.check-places.ensures, l) (record { places = rw p.counts (check-low c.args.located.now.table.accepted c.args.j (in-flag _ _ _ p.live).0); top = omega arith })

pub returns : goal.returns
returns c =
    let p = c.requires in
    record { removed = removed _ _ c.args.j p.ready p.live (rw c.check-places.ensures at c.forget.ensures); calm = calm-less p.calm c.forget.ensures c.raise.ensures }
