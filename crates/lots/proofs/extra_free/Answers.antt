-- `extra_free` meets its contract.
use Rattle.std.proofs.Common.{arith, rules}
use Rattle.lots.specs.Grid.{free}
use Rattle.lots.proofs.Seeking.{drawn-passes}
use Rattle.lots.proofs.extra_free.Goals as goal

pub put-requires : goal.put-requires
put-requires c =
    let p = c.requires in
    let s = c.in_ok-j.ensures.sought (λ j. free c.args.w.now j c.args.i) (λ v b h p. search rules) in
    (p.2, omega arith, p.3, drawn-passes s)

pub returns : goal.returns
returns c = (c.in_ok-j.ensures.sought (λ j. free c.args.w.now j c.args.i) (λ v b h p. search rules), c.put.ensures)
