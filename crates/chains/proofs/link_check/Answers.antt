-- `chains::link_check` meets its contract.
use Rattle.chains.proofs.Linking.{check-turn}
use Rattle.erasure.specs.LostLaws.{place-below}
use native.Mathlib.Omega.{arith}
use lib.ListN.{length, length-set}
use Rattle.chains.proofs.link_check.Goals as goal

pub bounds-head-p : goal.bounds-head-p
bounds-head-p c =
    let a = c.args in
    let s = c.loop-i in
    let h = place-below a.t.now a.at a.weight (length a.head.now) s.i c.requires.0 (omega arith) c.loop-i-test.true in
    omega (arith, h, c.from-p.ensures, s.invariant.0)

pub bounds-head-p-in-loop-i : goal.bounds-head-p-in-loop-i
bounds-head-p-in-loop-i c =
    let a = c.args in
    let s = c.loop-i in
    let h = place-below a.t.now a.at a.weight (length a.head.now) s.i c.requires.0 (omega arith) c.loop-i-test.true in
    omega (arith, h, c.from-p.ensures, s.invariant.0)

pub loop-i-preserved : goal.loop-i-preserved
loop-i-preserved c =
    let a = c.args in
    let s = c.loop-i in
    let h = place-below a.t.now a.at a.weight (length a.head.now) s.i c.requires.0 (omega arith) c.loop-i-test.true in
    let p = c.from-p.ensures in (
      simp length-set s.invariant.0,
      simp length-set s.invariant.1,
      simp length-set s.invariant.2,
      λ L l. check-turn a.t.now a.at a.weight _ c.requires.0 s.i (omega arith) c.loop-i-test.true a.j _ s.next s.owner s.head L p (omega (arith, h, p, s.invariant.0)) (omega (arith, s.invariant.1, c.requires.1)) (omega (arith, s.invariant.2, c.requires.2)) (s.invariant.3 L l),
    )
