-- `peel::pick` meets its contract.
use Rattle.std.proofs.Common.{sym, ◌∙◌, arith}
use Rattle.lists.specs.ListLaws.{highest-lt}
use Rattle.peel.proofs.ScanBound.{calm-scan}
use Rattle.peel.proofs.Turns.{found_at, found_none, picked-place, picked-choice}
use Rattle.peel.proofs.pick.Goals as goal

pub offset_bounds-names-p : goal.offset_bounds-names-p
offset_bounds-names-p c =
    let q = highest-lt c.args.top _ _ (found_at _ _ (sym c.single.ensures ∙ c.in-Some.is)) in
    let m = c.requires.calm.most in
    let r = c.requires.ready in
    omega (arith, r.counts, r.named)

pub bounds-names-p : goal.bounds-names-p
bounds-names-p c =
    let q = highest-lt c.args.top _ _ (found_at _ _ (sym c.single.ensures ∙ c.in-Some.is)) in
    let m = c.requires.calm.most in
    let r = c.requires.ready in
    omega (arith, r.counts, r.named)

pub most_freed_of-requires : goal.most_freed_of-requires
most_freed_of-requires c = let p = c.requires in record { places = sym p.ready.counts; flags = p.ready.flags }

pub returns-in-Some : goal.returns-in-Some
returns-in-Some c =
    let p = c.requires in
    let q = calm-scan _ p.ready.counts p.calm ∙ found_at _ _ (sym c.single.ensures ∙ c.in-Some.is) in
    rw c.from.ensures (picked-place _ _ _ p.ready.tally q)

pub returns-in-None : goal.returns-in-None
returns-in-None c =
    let p = c.requires in
    let q = calm-scan _ p.ready.counts p.calm ∙ found_none _ (sym c.single.ensures ∙ c.in-None.is) in
    rw c.most_freed_of.ensures (picked-choice _ _ _ _ p.ready.tally p.live q)
