-- `columns::spread` meets its contract: so many places are marked.
use mathlib.Core.Path.{refl}
use native.Mathlib.Omega.{arith}
use Rattle.lists.specs.ListLaws.{all-at}
use Rattle.live.specs.TurnLaws.{upd-turn}
use Rattle.columns.proofs.spread.Goals as goal

pub bounds-col-from : goal.bounds-col-from
bounds-col-from c = let low = all-at 0 c.requires.places c.loop-p.p-index c.loop-p-test.true in let e = c.from.ensures in omega arith

pub bounds-col-from-in-loop-p : goal.bounds-col-from-in-loop-p
bounds-col-from-in-loop-p c = let low = all-at 0 c.requires.places c.loop-p.p-index c.loop-p-test.true in let e = c.from.ensures in omega arith

pub loop-p-preserved : goal.loop-p-preserved
loop-p-preserved c =
    let low = all-at 0 c.requires.places c.loop-p.p-index c.loop-p-test.true in
    let e = c.from.ensures in
    upd-turn c.requires.apart c.loop-p.p-index c.loop-p-test.true _ e _ (omega arith) refl c.loop-p.invariant
