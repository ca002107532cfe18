-- `columns` meets its contract: the columns from j on are left.
use mathlib.Core.Path.{refl}
use native.Mathlib.Omega.{arith}
use borrow.Author.Rules.{rules}
use Rattle.fill.proofs.Going.{columns-start, columns-turn, columns-stop, columns-done}
use Rattle.fill.proofs.columns.Goals as goal

pub loop-j-init : goal.loop-j-init
loop-j-init c = let a = c.args in (refl, refl, λ s b. columns-start a.e a.m a.ones a.k _ s b)

pub column-requires : goal.column-requires
column-requires c =
    let p = c.requires in
    let r = c.loop-j.invariant.2 p.state p.holds in
    record { k = c.args.k; state = r.state; col = c.loop-j-test.true; both = r.holds }

pub returns-then-not-column : goal.returns-then-not-column
returns-then-not-column c =
    let a = c.args in
    let v = c.loop-j in
    let r = c.column in
    let h = c.loop-j-test.true in
    let t = c.if-not-column.true in
    λ s b. columns-stop a.e a.m a.ones v.j a.k _ _ _ r.result h (r.ensures a.k h) t (v.invariant.2 s b) _ _ refl

pub loop-j-preserved : goal.loop-j-preserved
loop-j-preserved c =
    let a = c.args in
    let v = c.loop-j in
    let r = c.column in
    let h = c.loop-j-test.true in
    let t = c.if-not-column.false in (
      search rules,
      search rules,
      λ s b. columns-turn a.e a.m a.ones v.j a.k _ _ _ r.result h (r.ensures a.k h) t (v.invariant.2 s b),
    )

pub returns : goal.returns
returns c =
    let a = c.args in
    let v = c.loop-j in
    λ s b. columns-done a.e a.m a.ones v.j a.k _ _ (omega arith) (v.invariant.2 s b)
