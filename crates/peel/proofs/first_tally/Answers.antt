-- `peel::first_tally` meets its contract: the kept checks from i on are live.
use Rattle.std.proofs.Common.{◌≡◌, ◌-◌, sym, ◌∙◌, arith}
use Rattle.peel.proofs.KeptLive.{noting-start, noting-turn, noting-stop, number_at, number-low, counts-few}
use Rattle.peel.proofs.first_tally.Goals as goal

pub loop-i-init : goal.loop-i-init
loop-i-init c = let p = c.requires in let fresh = p.fresh in noting-start p.kept fresh.none-live fresh.none-counted fresh.none_named

pub enter-requires : goal.enter-requires
enter-requires c =
    let p = c.requires in
    let flags = p.fresh.flags in
    let named = p.fresh.named in
    let low = number-low (c.loop-i.i - 1) p.kept (omega arith) in
    record { counts = omega arith; room = (omega arith, omega arith, omega arith); few = counts-few c.loop-i.invariant }

pub loop-i-preserved : goal.loop-i-preserved
loop-i-preserved c =
    let p = c.requires in
    let n = p.kept.count in
    let flags = p.fresh.flags in
    let e = c.from.ensures ∙ number_at (c.loop-i.i - 1) p.kept (omega arith) in
    noting-turn c.loop-i.i _ c.loop-i.invariant (omega arith) (omega arith) (omega arith) e c.enter.ensures

pub returns : goal.returns
returns c =
    let p = c.requires in
    let flags = p.fresh.flags in
    let named = p.fresh.named in
    let e : c.loop-i.i ≡ 0 = omega arith in
    noting-stop (rw e at c.loop-i.invariant) (omega arith) (sym c.loop-i.auto.count) (omega arith)
