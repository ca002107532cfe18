-- `making::write_head` meets its contract: one number after the other.
use native.Mathlib.Omega.{arith}
use lib.ListN.{length-set}
use Rattle.lists.specs.WroteLaws.{wrote_one, wrote-more}
use Rattle.making.proofs.write_head.Goals as goal

pub bounds-table-1 : goal.bounds-table-1
bounds-table-1 c = simp length-set (omega arith)

pub bounds-table-2 : goal.bounds-table-2
bounds-table-2 c = simp length-set (omega arith)

pub returns : goal.returns
returns c =
    let a = c.args in
    let h = c.requires.0 in
    wrote-more a.m (omega arith) (wrote-more a.s (omega arith) (wrote-more a.n (omega arith) (wrote_one a.table.now 0 2 (omega arith))))
