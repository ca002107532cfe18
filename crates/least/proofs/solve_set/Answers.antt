-- `least::solve_set` meets its contract: the bits below q are solved.
use Prim.Native.Nat.{◌<◌}
use mathlib.Core.Path.{sym, ap, ◌∙◌}
use native.Mathlib.Nat.{pos_of_ne-zero}
use native.Mathlib.Omega.{arith}
use lib.ListN.{length}
use Rattle.gf2.specs.Separate.{meets}
use Rattle.rows.specs.Leads.{leads}
use Rattle.least.specs.Solved.{in_set}
use Rattle.least.proofs.Solving.{solved-none, next-free, written-lead, free-zero, lead-row, lead-nonzero}
use Rattle.least.proofs.solve_set.Goals as goal
use Rattle.least.proofs.solve_set.Goals.{then-o-ne0, else-o-ne0}

pub loop-q-init : goal.loop-q-init
loop-q-init c = let a = c.args in λ j. sym (solved-none (leads a.w.now a.owner.now) (in_set a.set.now) j)

pub meets_set-requires : goal.meets_set-requires
meets_set-requires c =
    let p = c.requires in
    let r = p.rows.0 c.loop-q.q in
    let e = c.from-o.ensures in
    let z = pos_of_ne-zero c.if-o-ne0.true in
    let room = p.room.1 in
    (omega arith, omega arith, omega arith)

pub loop-q-preserved : goal.loop-q-preserved
loop-q-preserved c =
    let a = c.args in
    let s = c.loop-q in
    let p = c.requires in
    let e = c.from-o.ensures in
    let F = leads a.w.now a.owner.now in
    let room = p.room.1 in
    let inside : s.q < length s.set = omega arith in
    elim c.if-o-ne0.branch [
      | then-o-ne0 u ↦ rw u.set-is (written-lead F (in_set a.set.now) s.q s.set _ inside (lead-nonzero a.w.now a.owner.now p.rows.1 s.q c.from-o.result e u.if-o-ne0.true) s.invariant
          (u.meets_set.ensures ∙ ap (meets (in_set s.set) s.q) (sym (lead-row a.w.now a.owner.now p.rows.1 s.q c.from-o.result e u.if-o-ne0.true))))
      | else-o-ne0 u ↦ rw u.set-is (λ j. s.invariant j ∙ sym (next-free F (in_set a.set.now) s.q (free-zero a.w.now a.owner.now p.rows.1 s.q c.from-o.result e u.if-o-ne0.false) j))
    ]
