-- `chains::walk` meets its contract.
use Rattle.chains.proofs.Walking.{walk_start, walk_end, walk-check, walk_turn}
use Prim.Native.Nat.{◌-◌, ◌≤◌}
use mathlib.Core.Path.{◌≡◌, refl}
use native.Mathlib.Omega.{arith}
use lib.ListN.{get_or}
use Rattle.chains.proofs.walk.Goals as goal
use Rattle.chains.proofs.walk.Goals.{then-left-eq1, else-left-eq1}

pub loop-i-init : goal.loop-i-init
loop-i-init c = walk_start _ _ _ _ _ c.requires

pub bounds-count-j : goal.bounds-count-j
bounds-count-j c = walk-check _ _ _ _ _ _ _ _ c.loop-i.invariant c.loop-i-test.true _ c.from-j.ensures

pub loop-i-preserved : goal.loop-i-preserved
loop-i-preserved c =
    let s = c.loop-i in
    let j = c.from-j.result in
    let l : (get_or s.count j 0 - 1 ≡ 1 → c.if-left-eq1.low ≤ j) × (c.if-left-eq1.low ≤ s.low) =
    elim c.if-left-eq1.branch [
      | then-left-eq1 u ↦ ((λ e. omega (arith, u.low-is, u.min-low.ensures)), omega (arith, u.low-is, u.min-low.ensures))
      | else-left-eq1 u ↦ ((λ e. absurd (u.if-left-eq1.false e)), omega (arith, u.low-is))
    ] in
    walk_turn _ _ _ _ _ _ _ _ s.invariant c.loop-i-test.true _ c.from-j.ensures _ _ _ refl l.0 l.1 c.from-i.ensures

pub returns : goal.returns
returns c = walk_end _ _ _ _ _ _ _ _ c.loop-i.invariant c.loop-i-test.false
