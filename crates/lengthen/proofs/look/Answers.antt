-- `lengthen::look` meets its contract.
use Rattle.erasure.specs.Offered.{held}
use Rattle.lengthen.proofs.Looking.{five-carried, five-arrivals}
use Rattle.lengthen.proofs.look.Goals as goal

pub returns-then-wrong_lengths : goal.returns-then-wrong_lengths
returns-then-wrong_lengths c = five-carried c.args.old.now.words.now c.args.new.now.words.now (held c.args.block.now c.args.map.now) (held c.args.arrivals.now c.args.arrived.now) _ _ _ _ _ _ c.args.old.now.accepted c.args.new.now.accepted _ c.wrong_lengths.ensures c.if-wrong_lengths.true

pub returns-then-wrong_lengths-2 : goal.returns-then-wrong_lengths-2
returns-then-wrong_lengths-2 c = five-arrivals c.args.old.now.words.now c.args.new.now.words.now (held c.args.block.now c.args.map.now) (held c.args.arrivals.now c.args.arrived.now) _ _ _ _ _ _ c.args.old.now.accepted c.args.new.now.accepted _ c.wrong_lengths-2.ensures c.if-wrong_lengths-2.true
