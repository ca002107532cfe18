-- `put_list` meets its contract: the places, the zeros, and the line's end.
use native.Mathlib.Omega.{arith}
use Rattle.bits.specs.Row.{row, places_in}
use Rattle.alist_numbers.specs.PutLaws.{put-padded}
use Rattle.alist_lines.proofs.put_list.Goals as goal

pub returns : goal.returns
returns c =
    let a = c.args in
    let p = c.put_row-next.ensures in
    let o = c.ones_of.ensures.0 in
    let q = c.put_zeros-next.ensures in
    let x = c.end_line.ensures in
    let h = p.1 in
    let i = q.1 in
    let e = x.ends in
    (put-padded a.most _ (places_in (row a.w.now a.c)) o p.0 q.0 x, omega arith)
