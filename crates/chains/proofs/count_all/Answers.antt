-- `chains::count_all` meets its contract.
use Rattle.chains.proofs.Counting.{counted-turn, counted-small}
use Rattle.table.specs.Accepted.{each-places}
use Rattle.table.specs.Checks.{check}
use Rattle.table.specs.SumLaws.{places-low}
use mathlib.Core.Path.{refl}
use native.Mathlib.Omega.{arith}
use lib.ListN.{length-set}
use Rattle.chains.proofs.count_all.Goals as goal

pub loop-j-init : goal.loop-j-init
loop-j-init c = (refl, λ k h. absurd (omega arith))

pub lost_in-requires : goal.lost_in-requires
unfolding check
lost_in-requires c = rw (c.check.ensures, c.requires.0) (places-low (each-places c.args.located.now.table.words.now _ _ _ c.args.located.now.table.accepted c.loop-j.j c.loop-j-test.true))

pub overflow_cast-count : goal.overflow_cast-count
unfolding check
overflow_cast-count c =
    let h = counted-small c.args.located.now.table.words.now _ _ _ c.args.located.now.table.accepted c.loop-j.j c.loop-j-test.true _ _ refl refl c.args.map.now in
    let e = rw c.check.ensures at c.lost_in.ensures in
    omega (arith, h, e)

pub loop-j-preserved : goal.loop-j-preserved
unfolding check
loop-j-preserved c =
    let s = c.loop-j in
    let p = c.requires in
    let a = c.args in (
      simp length-set s.invariant.0,
      counted-turn a.located.now.table.words.now _ _ _ c.args.located.now.table.accepted c.loop-j.j c.loop-j-test.true _ _ refl refl a.map.now s.count _ (omega (arith, s.invariant.0, p.1)) (rw c.check.ensures at c.lost_in.ensures) s.invariant.1,
    )
