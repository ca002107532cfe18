-- `put_pair` meets its contract: two numbers, and the line's end.
use mathlib.Core.List.{[], ◌∷◌}
use native.Mathlib.Omega.{arith}
use Rattle.alist_numbers.specs.PutLaws.{on_both, put-line}
use Rattle.alist_lines.proofs.put_pair.Goals as goal

pub returns : goal.returns
returns c =
    let a = c.args in
    let p = c.put_next-next.ensures in
    let q = c.put_next-next-2.ensures in
    let r = c.end_line.ensures in
    let l = p.1 in
    let m = q.1 in
    let e = r.ends in
    (put-line (a.x ∷ a.y ∷ []) (on_both a.at (a.x ∷ []) (a.y ∷ []) (omega arith) p.0 q.0) r, omega arith)
