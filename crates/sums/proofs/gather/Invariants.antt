-- `sums::gather` meets its contract: after some turns, the parts of as many places are added.
use Rattle.table.specs.GatherLaws.{Gathered}
use Rattle.table.specs.Packets.{packets}
use lib.ListN.{take}
use Rattle.sums.proofs.gather.Given as goal

abbrev pub invariant-loop-p : goal.invariant-loop-p
invariant-loop-p l = Gathered l.s (packets l.s l.n l.block) l.off (take l.p-index l.places) l.initial.acc l.acc
