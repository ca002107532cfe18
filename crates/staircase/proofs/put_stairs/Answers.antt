-- `put_stairs` meets its contract: row after row.
use mathlib.Core.Path.{◌≡◌, subst}
use native.Mathlib.Omega.{arith}
use Rattle.staircase.specs.Staired.{Staired}
use Rattle.staircase.proofs.StairRows.{stairs-none, stairs-more}
use Rattle.staircase.proofs.put_stairs.Goals as goal

pub loop-i-init : goal.loop-i-init
loop-i-init c = stairs-none _ _

pub put_stair-requires : goal.put_stair-requires
put_stair-requires c =
    let l = c.loop-i.invariant.len in
    let t = c.loop-i-test.true in
    (omega arith, omega arith)

pub loop-i-preserved : goal.loop-i-preserved
loop-i-preserved c = stairs-more c.loop-i.invariant c.put_stair.ensures

pub shape_of-w : goal.shape_of-w
shape_of-w c = c.loop-i.invariant.len

pub returns : goal.returns
returns c =
    let a = c.args in
    let z : c.loop-i.i ≡ a.m = omega arith in
    subst (λ x. Staired a.k x a.w.now c.loop-i.w) z c.loop-i.invariant
