-- `least::write_places` meets its contract: the places below p are looked at.
use mathlib.Core.Path.{sym, ap, ◌∙◌}
use native.Mathlib.Omega.{arith}
use Rattle.least.specs.Solved.{in_set}
use Rattle.least.proofs.Solving.{places-start, places-hit, places-miss}
use Rattle.least.proofs.write_places.Goals as goal
use Rattle.least.proofs.write_places.Goals.{then-set-bit_of, else-set-bit_of}

pub loop-p-init : goal.loop-p-init
loop-p-init c = record { few = omega arith; list = places-start c.args.n (in_set c.args.set.now) }

pub loop-p-preserved : goal.loop-p-preserved
loop-p-preserved c =
    let a = c.args in
    let s = c.loop-p in
    let S = in_set a.set.now in
    let room = c.requires.1 in
    let few = s.invariant.few in
    elim c.if-set-bit_of.branch [
      | then-set-bit_of u ↦ record {
        few = rw u.c-is (omega arith);
        list = rw (u.list-is, u.c-is) (places-hit a.n S s.p (sym (ap S c.bit_of.ensures) ∙ u.if-set-bit_of.true) (omega arith) s.invariant.list);
      }
      | else-set-bit_of u ↦ record {
        few = rw u.c-is (omega arith);
        list = rw (u.list-is, u.c-is) (places-miss a.n S s.p (sym (ap S c.bit_of.ensures) ∙ u.if-set-bit_of.false) s.invariant.list);
      }
    ]
