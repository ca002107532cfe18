-- `put_lines` meets its contract: the head and the lists, one after the other.
use native.Mathlib.Omega.{arith}
use Rattle.alist_lines.proofs.Whole.{put-lines}
use Rattle.alist_lines.proofs.put_lines.Goals as goal

pub returns : goal.returns
returns c =
    let a = c.args in
    let p = c.put_head-next.ensures in
    let q = c.put_lists-next.ensures in
    let s = c.put_lists.ensures in
    let h = p.1 in
    let i = q.1 in
    let j = s.1 in
    (put-lines a.columns.now a.n a.a a.rows.now a.m a.b p.0 q.0 s.0, omega arith)
