-- `eliminate::part_check` meets its contract: the places so far are parted.
use mathlib.Core.Path.{refl, sym, ap, ◌∙◌}
use native.Mathlib.Omega.{arith}
use borrow.Author.Tests.{eq-eqb, ne_eqb}
use Rattle.lists.specs.ListLaws.{all-at}
use Rattle.erasure.specs.Restoring.{is_lost}
use Rattle.eliminate.proofs.Parting.{flipped, not_noted, noted as noted_more, not-flipped}
use Rattle.eliminate.proofs.part_check.Goals as goal
use Rattle.eliminate.proofs.part_check.Goals.{then-map-q-eq1, else-map-q-eq1}

pub bounds-map-q : goal.bounds-map-q
bounds-map-q c = rw c.from-q.ensures (all-at 0 c.requires.1 c.loop-p.p-index c.loop-p-test.true)

pub loop-p-preserved : goal.loop-p-preserved
loop-p-preserved c =
    let a = c.args in
    let l = c.loop-p in
    let h = c.loop-p-test.true in
    let q = c.from-q.ensures in
    let room = c.requires.3 in
    let few = l.invariant.few in
    elim c.if-map-q-eq1.branch [
      | then-map-q-eq1 u ↦
          let lost = eq-eqb _ 1 u.if-map-q-eq1.true in record {
            few = rw u.k-is (omega arith);
            row = rw u.w-is (flipped a.map.now _ l.p-index c.from-q.result h q lost l.invariant.row u.flip.ensures);
            noted = rw (u.noted-is, u.k-is) (not_noted a.map.now _ l.p-index c.from-q.result h q lost l.invariant.noted);
          }
      | else-map-q-eq1 u ↦
          let known = ap (is_lost a.map.now) (sym q) ∙ ne_eqb _ 1 u.if-map-q-eq1.false in record {
            few = rw u.k-is (omega arith);
            row = rw u.w-is (not-flipped a.map.now _ l.p-index _ h refl known l.invariant.row);
            noted = rw (u.noted-is, u.k-is) (noted_more a.map.now _ l.p-index _ h refl known l.invariant.noted (omega arith));
          }
    ]
