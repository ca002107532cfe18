-- `all_rise` meets its contract: the checks left decide.
use mathlib.Core.Path.{refl, sym, ap, ◌∙◌}
use Prim.Native.Nat.{◌+◌}
use native.Mathlib.Omega.{arith}
use borrow.Author.Tests.{not-true, not-false}
use lib.ListN.{drop}
use Rattle.table.specs.Table.{total}
use Rattle.table.proofs.Looking.{part-all, part_none, part-cons, passes, pass-not, pass_on, pass-end}
use Rattle.table.proofs.all_rise.Goals as goal

pub loop-j-init : goal.loop-j-init
loop-j-init c =
    let a = c.args in
    let p = part-all a.t.now 4 a.m 4 refl in
    let q = ap total p in
    (omega arith, omega arith, ap (λ ws. passes a.n ws (drop (5 + a.m) a.t.now)) (sym p))

pub run-requires : goal.run-requires
run-requires c =
    let a = c.args in
    let s = c.loop-j in
    let l = c.loop-j-test.true in
    let e = c.from-w.ensures in
    let p = part-cons a.t.now (4 + s.j) (4 + a.m) (4 + (s.j + 1)) (omega arith) (omega arith) (omega arith) in
    let q = ap total p in
    omega arith

pub returns-then-not-rises : goal.returns-then-not-rises
returns-then-not-rises c =
    let a = c.args in
    let s = c.loop-j in
    let l = c.loop-j-test.true in
    let e = c.from-w.ensures in
    let p = part-cons a.t.now (4 + s.j) (4 + a.m) (4 + (s.j + 1)) (omega arith) (omega arith) (omega arith) in
    let q = ap total p in
    pass-not _ _ _ _ _ _ _ e p (rw c.run.ensures at c.rises.ensures) (not-true _ c.if-not-rises.true-raw) ∙ sym s.invariant.2

pub overflow_add-at-in-loop-j : goal.overflow_add-at-in-loop-j
overflow_add-at-in-loop-j c =
    let a = c.args in
    let s = c.loop-j in
    let l = c.loop-j-test.true in
    let e = c.from-w.ensures in
    let p = part-cons a.t.now (4 + s.j) (4 + a.m) (4 + (s.j + 1)) (omega arith) (omega arith) (omega arith) in
    let q = ap total p in
    omega arith

pub loop-j-preserved : goal.loop-j-preserved
loop-j-preserved c =
    let a = c.args in
    let s = c.loop-j in
    let l = c.loop-j-test.true in
    let e = c.from-w.ensures in
    let p = part-cons a.t.now (4 + s.j) (4 + a.m) (4 + (s.j + 1)) (omega arith) (omega arith) (omega arith) in
    let q = ap total p in
    (omega arith, omega arith, s.invariant.2 ∙ pass_on _ _ _ _ _ _ _ _ e p (rw c.run.ensures at c.rises.ensures) (not-false _ c.if-not-rises.false-raw))

pub returns : goal.returns
returns c =
    let a = c.args in
    let s = c.loop-j in
    pass-end a.n _ _ (part_none a.t.now (4 + s.j) (4 + a.m) (omega arith)) ∙ sym s.invariant.2
