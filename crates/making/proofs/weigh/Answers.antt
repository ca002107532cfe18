-- `making::weigh` meets its contract: the rows left, and the sum so far, decide.
use mathlib.Core.Path.{sym, ap, ◌∙◌}
use mathlib.Core.List.{map}
use native.Mathlib.Omega.{arith}
use lib.ListN.{length}
use Rattle.making.specs.Rows.{rows_all, rows_next, rows_none}
use Rattle.table.specs.WeighLaws.{weigh-start, weigh-heavy, weigh-light, weigh-end}
use Rattle.making.proofs.weigh.Goals as goal

pub loop-i-init : goal.loop-i-init
loop-i-init c = let a = c.args in (omega arith, weigh-start _ _ (sym (ap (map length) (rows_all a.w.now a.m))))

pub returns-then-x-gt-MOST_WEIGHT : goal.returns-then-x-gt-MOST_WEIGHT
returns-then-x-gt-MOST_WEIGHT c =
    let a = c.args in
    let s = c.loop-i in
    let n = ap (map length) (rows_next a.w.now a.m s.i c.loop-i-test.true) in
    weigh-heavy s.sum _ _ _ _ c.ones_of-x.ensures.0 n c.if-x-gt-MOST_WEIGHT.true ∙ sym s.invariant.1

pub loop-i-preserved : goal.loop-i-preserved
loop-i-preserved c =
    let a = c.args in
    let s = c.loop-i in
    let n = ap (map length) (rows_next a.w.now a.m s.i c.loop-i-test.true) in
    (omega arith, s.invariant.1 ∙ weigh-light s.sum _ _ _ _ c.ones_of-x.ensures.0 n c.if-x-gt-MOST_WEIGHT.false)

pub returns : goal.returns
returns c =
    let a = c.args in
    let s = c.loop-i in
    weigh-end _ _ (ap (map length) (rows_none a.w.now a.m s.i c.loop-i-test.false)) ∙ sym s.invariant.1
