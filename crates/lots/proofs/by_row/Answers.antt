-- `by_row` meets its contract.
use Rattle.std.proofs.Common.{arith, rules}
use Rattle.lots.specs.Grid.{free}
use Rattle.lots.proofs.Seeking.{drawn-passes}
use Rattle.lots.proofs.by_row.Goals as goal

pub put-requires : goal.put-requires
put-requires c =
    let p = c.requires in
    let s = c.in_ok-r.ensures.sought (free c.args.w.now c.args.j) (λ v b h p. search rules) in
    (omega arith, p.2, p.3, drawn-passes s)

pub returns : goal.returns
returns c = (c.in_ok-r.ensures.sought (free c.args.w.now c.args.j) (λ v b h p. search rules), c.put.ensures)
