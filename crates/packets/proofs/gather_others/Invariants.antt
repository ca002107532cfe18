-- `packets::gather_others` meets its contract: after m turns, the parts of the other ones of the first m places are added.
use Rattle.table.specs.GatherLaws.{Gathered}
use Rattle.table.specs.Packets.{packets}
use Rattle.lists.specs.Lists.{minus}
use mathlib.Core.List.{[], ◌∷◌}
use lib.ListN.{take}
use Rattle.packets.proofs.gather_others.Given as goal

abbrev pub invariant-loop-q : goal.invariant-loop-q
invariant-loop-q l = Gathered l.s (packets l.s l.n l.block) l.off (minus (take l.q-index l.places) (l.skip ∷ [])) l.initial.acc l.acc
