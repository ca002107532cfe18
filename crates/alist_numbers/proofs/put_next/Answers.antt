-- `put_next` meets its contract: the number alone, or after a blank.
use native.Mathlib.Omega.{arith}
use Rattle.alist_numbers.specs.PutLaws.{put-decimal, next-first, next-after}
use Rattle.alist_numbers.proofs.put_next.Goals as goal

pub returns-then-at-start : goal.returns-then-at-start
returns-then-at-start c =
    let a = c.args in
    let p = put-decimal a.x c.requires.1 c.put_number.ensures in
    let l = p.1 in
    (next-first a.start a.x c.if-at-start.true p.0, omega arith)

pub returns : goal.returns
returns c =
    let a = c.args in
    let q = c.put_byte-next.ensures in
    let p = put-decimal a.x c.requires.1 c.put_number-2.ensures in
    let l = p.1 in
    let e = q.ends in
    (next-after a.start a.x c.if-at-start.false q p.0, omega arith)
