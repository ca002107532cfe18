-- `fill_starts` meets its contract: the starts written so far, and the start of the next check.
use mathlib.Core.Path.{refl}
use Prim.Native.Nat.{◌+◌}
use native.Mathlib.Omega.{arith}
use lib.ListN.{get_or, length-set}
use Rattle.table.specs.Accepted.{few-checks, has-weights, by_number}
use Rattle.table.specs.ChecksLaws.{offset-none, offset-more}
use Rattle.table.proofs.Starting.{written-more, start_fits}
use Rattle.table.proofs.fill_starts.Goals as goal

pub overflow_add-at : goal.overflow_add-at
overflow_add-at c = let f = few-checks _ _ _ _ c.args.table.now.accepted in omega arith

pub loop-j-init : goal.loop-j-init
loop-j-init c =
    let a = c.args in
    (offset-none a.table.now.words.now a.table.now.checks, refl, λ k h. absurd (omega arith))

pub overflow_cast-starts : goal.overflow_cast-starts
overflow_cast-starts c = let r = start_fits c.args.table.now.words.now _ _ _ (by_number _ _ _ _ c.args.table.now.accepted) (omega arith) c.loop-j.invariant.0 in omega arith

pub overflow_add-j : goal.overflow_add-j
overflow_add-j c = let w = has-weights _ _ _ _ c.args.table.now.accepted in omega arith

pub offset_bounds-table-j : goal.offset_bounds-table-j
offset_bounds-table-j c = let w = has-weights _ _ _ _ c.args.table.now.accepted in omega arith

pub bounds-table-j : goal.bounds-table-j
bounds-table-j c = let w = has-weights _ _ _ _ c.args.table.now.accepted in omega arith

pub overflow_add-at-in-loop-j : goal.overflow_add-at-in-loop-j
overflow_add-at-in-loop-j c =
    let a = c.args in
    let s = c.loop-j in
    let o = offset-more a.table.now.words.now s.j in
    let e = c.from-at.ensures in
    let r = start_fits a.table.now.words.now a.table.now.checks (s.j + 1) (s.at + get_or a.table.now.words.now (4 + s.j) 0) (by_number _ _ _ _ c.args.table.now.accepted) (omega arith) (omega arith) in
    omega arith

pub loop-j-preserved : goal.loop-j-preserved
loop-j-preserved c =
    let a = c.args in
    let s = c.loop-j in
    let o = offset-more a.table.now.words.now s.j in
    let e = c.from-at.ensures in
    (omega arith, simp length-set s.invariant.1, written-more a.table.now.words.now a.table.now.checks s.j s.at s.starts (omega arith) s.invariant.0 s.invariant.2)

pub returns : goal.returns
returns c =
    let a = c.args in
    let s = c.loop-j in
    record { room = omega arith; each = λ k h. s.invariant.2 k (omega arith) }
