-- `extras` meets its contract: the rows from i on are left.
use Prim.Native.Nat.{ℕ}
use mathlib.Core.Path.{refl}
use mathlib.Core.List.{List}
use native.Mathlib.Omega.{arith}
use borrow.Author.Rules.{rules}
use Rattle.fill.specs.Fill.{State}
use Rattle.fill.specs.Held.{Rep, FilledIn}
use Rattle.fill.proofs.Going.{rest-holds, extras-start, extras-turn, extras-stop, extras-done}
use Rattle.fill.proofs.extras.Goals as goal

pub loop-i-init : goal.loop-i-init
loop-i-init c = (refl, λ e s r. extras-start c.args.k c.args.m _ s r)

pub two_ones-requires : goal.two_ones-requires
two_ones-requires c =
    let p = c.requires in
    let r = c.loop-i.invariant.1 p.e p.state p.rep in
    record { m = c.args.m; e = p.e; state = r.state; row = c.loop-i-test.true; rep = r.holds }

pub returns-then-not-two_ones : goal.returns-then-not-two_ones
returns-then-not-two_ones c =
    let a = c.args in
    let v = c.loop-i in
    let d = c.two_ones in
    let h = c.loop-i-test.true in
    let t = c.if-not-two_ones.true in
    λ e s r. extras-stop a.k v.i a.m _ _ _ d.result h (d.ensures a.m e h) t (v.invariant.1 e s r) _ _ refl

pub loop-i-preserved : goal.loop-i-preserved
loop-i-preserved c =
    let a = c.args in
    let v = c.loop-i in
    let d = c.two_ones in
    let h = c.loop-i-test.true in
    let t = c.if-not-two_ones.false in (
      search rules,
      λ e s r. extras-turn a.k v.i a.m _ _ _ d.result h (d.ensures a.m e h) t (v.invariant.1 e s r),
    )

-- the rows held at the end are the filled rows
filled : {k m e : ℕ} {w : List ℕ} {x l : ℕ} (s : State) → Rep k m e w x l s → FilledIn k m w s
filled s p = record { wide = p.wide; long = p.good.long; each = p.good.each; cells = p.cells }

pub returns : goal.returns
returns c =
    let a = c.args in
    let v = c.loop-i in
    λ e s r. extras-done a.k v.i a.m _ _ (omega arith) (rest-holds _ _ _ _ filled (v.invariant.1 e s r))
