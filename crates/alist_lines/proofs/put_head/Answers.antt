-- `put_head` meets its contract: four lines.
use mathlib.Core.Path.{sym}
use mathlib.Core.List.{append-nil}
use native.Mathlib.Omega.{arith}
use Rattle.alist_numbers.specs.PutLaws.{put_both, put_is}
use Rattle.alist_lines.proofs.put_head.Goals as goal

pub returns : goal.returns
returns c =
    let p = c.put_pair-next.ensures in
    let q = c.put_pair-next-2.ensures in
    let x = c.put_weights-next.ensures in
    let y = c.put_weights.ensures in
    let h = p.1 in
    let i = q.1 in
    let j = x.1 in
    let k = y.1 in
    (put_both p.0 (put_both q.0 (put_both x.0 (put_is (sym (append-nil _)) y.0))), omega arith)
