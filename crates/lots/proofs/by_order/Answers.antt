-- `by_order` meets its contract.
use Rattle.std.proofs.Common.{◌+◌, arith, rules, ap, ◌∙◌, refl}
use Rattle.lots.specs.Grid.{free, free_entry}
use Rattle.lots.proofs.Putting.{put-at}
use Rattle.lots.proofs.Seeking.{drawn-passes}
use Rattle.lots.proofs.by_order.Goals as goal

pub put-requires : goal.put-requires
put-requires c =
    let a = c.args in
    let p = c.requires in
    let y = c.from.ensures in
    let l = p.3 (a.t + c.in_ok-v.v) in
    let s = c.in_ok-v.ensures.sought (free_entry a.w.now a.u.now a.t a.j) (λ v b h p. search rules) in
    (omega arith, p.4, p.5, ap (free a.w.now a.j) y ∙ drawn-passes s)

pub returns : goal.returns
returns c =
    let a = c.args in
    (c.in_ok-v.ensures.sought (free_entry a.w.now a.u.now a.t a.j) (λ v b h p. search rules), (put-at c.from.ensures c.put.ensures, refl))
