-- `extra_any` meets its contract.
use Rattle.std.proofs.Common.{true, ◌<◌, arith, rules}
use Rattle.lots.proofs.extra_any.Goals as goal

pub put-requires : goal.put-requires
put-requires c =
    let p = c.requires in
    let l : c.in_ok-j.j < 1024 = omega (arith, c.in_ok-j.ensures.below) in
    (p.2, l, p.3, p.4 c.in_ok-j.j l)

pub returns : goal.returns
returns c = (c.in_ok-j.ensures.sought (λ j. true) (λ v b h p. search rules), c.put.ensures)
