-- `blame::narrow_table` meets its contract.
use mathlib.Core.Path.{refl, sym, ap, ◌∙◌}
use native.Mathlib.Omega.{arith}
use lib.ListN.{get_or, set, length-set}
use Rattle.lists.specs.Buffers.{filled_more}
use Rattle.blame.proofs.Copying.{filled-table}
use Rattle.blame.proofs.narrow_table.Goals as goal

pub loop-i-init : goal.loop-i-init
loop-i-init c = (c.requires.0, λ k h. absurd (omega arith))

pub offset_bounds-small-i : goal.offset_bounds-small-i
offset_bounds-small-i c = let e = c.loop-i.invariant.0 in omega arith

pub bounds-small-i : goal.bounds-small-i
bounds-small-i c = let e = c.loop-i.invariant.0 in omega arith

pub loop-i-preserved : goal.loop-i-preserved
loop-i-preserved c =
    let l = c.loop-i in
    let a = c.args in
    (length-set l.small l.i _ ∙ l.invariant.0, filled_more 0 (λ k. get_or a.t.now k 0) l.small l.i _ (let e = l.invariant.0 in omega arith) l.invariant.1 refl)

pub bounds-small-2 : goal.bounds-small-2
bounds-small-2 c = let e = c.loop-i.invariant.0 in let w = c.requires.1 in omega arith

pub shape_of-small : goal.shape_of-small
shape_of-small c = length-set c.loop-i.small 2 1 ∙ c.loop-i.invariant.0 ∙ sym c.requires.0

pub returns : goal.returns
returns c =
    let l = c.loop-i in
    let a = c.args in
    let end = c.loop-i-test.false in
    ap (λ x. set x 2 1) (filled-table a.t.now l.small l.invariant.0 (λ k h. l.invariant.1 k (omega arith)))
