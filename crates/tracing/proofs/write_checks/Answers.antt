-- `tracing::write_checks` meets its contract: the checks so far are looked at.
use mathlib.Core.Path.{sym, ◌∙◌}
use native.Mathlib.Omega.{arith}
use Rattle.tracing.proofs.Feeding.{listed_start, listed-hit, listed-miss}
use Rattle.tracing.proofs.write_checks.Goals as goal
use Rattle.tracing.proofs.write_checks.Goals.{then-has_place, else-has_place}

pub loop-i-init : goal.loop-i-init
loop-i-init c = record { few = omega arith; list = listed_start _ c.args.ids.now }

pub loop-i-preserved : goal.loop-i-preserved
loop-i-preserved c =
    let l = c.loop-i.invariant in
    let h = c.loop-i-test.true in
    let few = l.few in
    let room = c.requires.2 in
    elim c.if-has_place.branch [
      | then-has_place u ↦ record {
        few = rw u.c-is (omega arith);
        list = rw (u.list-is, u.c-is) (listed-hit _ _ c.args.ids.now h (sym c.has_place.ensures ∙ u.if-has_place.true) (omega arith) l.list);
      }
      | else-has_place u ↦ record {
        few = rw u.c-is (omega arith);
        list = rw (u.list-is, u.c-is) (listed-miss _ _ c.args.ids.now h (sym c.has_place.ensures ∙ u.if-has_place.false) l.list);
      }
    ]
