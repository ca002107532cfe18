-- `column` meets its contract: c ones are left.
use mathlib.Core.Path.{◌≡◌, refl}
use Prim.Native.Nat.{◌+◌, ◌-◌, ◌<◌}
use native.Mathlib.Omega.{arith}
use borrow.Author.Rules.{rules}
use Rattle.fill.proofs.Going.{from-here, column-turn, column-stop, column-done}
use Rattle.fill.proofs.column.Goals as goal

pub loop-i-init : goal.loop-i-init
loop-i-init c = let a = c.args in (refl, refl, λ k h s b. let z : a.ones - 0 ≡ a.ones = omega arith in rw z (from-here _ _ s b))

pub one-requires : goal.one-requires
one-requires c =
    let p = c.requires in
    let r = c.loop-i.invariant.2 p.k p.col p.state p.both in
    record { k = p.k; state = r.state; col = p.col; both = r.holds }

pub returns-then-not-one : goal.returns-then-not-one
returns-then-not-one c =
    let a = c.args in
    let v = c.loop-i in
    let r = c.one in
    let h : 0 < a.ones - v.i = omega arith in
    let t = c.if-not-one.true in
    λ k g s b. column-stop a.e a.m a.j (a.ones - v.i) _ _ _ r.result h (r.ensures k g) t (v.invariant.2 k g s b) _ _ refl

pub loop-i-preserved : goal.loop-i-preserved
loop-i-preserved c =
    let a = c.args in
    let v = c.loop-i in
    let r = c.one in
    let h : 0 < a.ones - v.i = omega arith in
    let z : a.ones - (v.i + 1) ≡ a.ones - v.i - 1 = omega arith in
    let t = c.if-not-one.false in (
      search rules,
      search rules,
      λ k g s b. rw z (column-turn a.e a.m a.j (a.ones - v.i) _ _ _ r.result h (r.ensures k g) t (v.invariant.2 k g s b)),
    )

pub returns : goal.returns
returns c =
    let a = c.args in
    let v = c.loop-i in
    λ k g s b. column-done a.e a.m a.j (a.ones - v.i) _ _ (omega arith) (v.invariant.2 k g s b)
