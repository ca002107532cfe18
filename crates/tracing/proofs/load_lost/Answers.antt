-- `tracing::load_lost` meets its contract: the places so far are loaded.
use native.Mathlib.Omega.{arith}
use borrow.Author.Tests.{eq-eqb, ne_eqb}
use Rattle.lists.specs.ListLaws.{all-at}
use Rattle.tracing.proofs.Loading.{flipped, passed}
use Rattle.tracing.proofs.load_lost.Goals as goal
use Rattle.tracing.proofs.load_lost.Goals.{then-lost-p-eq1, else-lost-p-eq1}

pub bounds-lost-p : goal.bounds-lost-p
bounds-lost-p c = let h = all-at 0 c.requires.1 c.loop-q.q-index c.loop-q-test.true in omega (arith, c.from-p.ensures, h)

pub bit_of-requires : goal.bit_of-requires
bit_of-requires c = rw c.from-p.ensures (all-at 0 c.requires.1 c.loop-q.q-index c.loop-q-test.true)

pub loop-q-preserved : goal.loop-q-preserved
loop-q-preserved c =
    let a = c.args in
    let l = c.loop-q in
    let h = c.loop-q-test.true in
    let q = c.from-p in
    elim c.if-lost-p-eq1.branch [
      | then-lost-p-eq1 u ↦ rw u.w-is (flipped a.n a.lost.now _ l.q-index q.result h q.ensures (eq-eqb _ 1 u.if-lost-p-eq1.true) u.bit_of.result u.bit_of.ensures l.invariant u.flip.ensures)
      | else-lost-p-eq1 u ↦ rw u.w-is (passed a.n a.lost.now _ l.q-index q.result h q.ensures (ne_eqb _ 1 u.if-lost-p-eq1.false) l.invariant)
    ]
