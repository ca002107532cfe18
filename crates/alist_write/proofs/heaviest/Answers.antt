-- `heaviest` meets its contract: the greatest so far and the rows left decide.
use mathlib.Core.Path.{ap}
use mathlib.Core.List.{map}
use native.Mathlib.Omega.{arith}
use lib.ListN.{length}
use Rattle.making.specs.Rows.{rows_all, rows_next, rows_none}
use Rattle.alist.specs.Alist.{greatest}
use Rattle.alist_write.proofs.heaviest.Goals as goal

pub loop-c-init : goal.loop-c-init
loop-c-init c =
    let a = c.args in
    let e = ap (λ l. greatest (map length l)) (rows_all a.w.now a.count) in
    (omega arith, omega arith)

pub loop-c-preserved : goal.loop-c-preserved
loop-c-preserved c =
    let a = c.args in
    let s = c.loop-c in
    let n = ap (λ l. greatest (map length l)) (rows_next a.w.now a.count s.c c.loop-c-test.true) in
    let o = c.ones_of.ensures in
    let v = o.0 in
    let l = o.1 in
    (omega arith, omega arith)

pub returns : goal.returns
returns c =
    let a = c.args in
    let s = c.loop-c in
    let n = ap (λ l. greatest (map length l)) (rows_none a.w.now a.count s.c c.loop-c-test.false) in
    (omega arith, omega arith)
