-- `longer::same_checks` meets its contract.
use native.Mathlib.Omega.{arith}
use Rattle.longer.proofs.Words.{other-weights, places-tell, room}
use Rattle.longer.proofs.same_checks.Goals as goal

pub returns-then-ne : goal.returns-then-ne
returns-then-ne c = let a = c.args in other-weights _ _ _ _ _ _ _ _ a.old.now.accepted a.new.now.accepted c.requires _ c.ne.ensures c.if-ne.true

pub slice_bounds-eq-end-2 : goal.slice_bounds-eq-end-2
slice_bounds-eq-end-2 c = let a = c.args in omega (arith, room _ _ _ _ _ _ _ _ a.old.now.accepted a.new.now.accepted c.requires _ c.ne.ensures c.if-ne.false)

pub returns : goal.returns
returns c = let a = c.args in places-tell _ _ _ _ _ _ _ _ a.old.now.accepted a.new.now.accepted c.requires _ _ c.ne.ensures c.if-ne.false c.eq.ensures
