-- `peel::first_tally` meets its contract: the kept checks from i on are live.
use Rattle.peel.proofs.KeptLive.{Noting}
use Rattle.peel.proofs.first_tally.Given as goal

abbrev pub invariant-loop-i : goal.invariant-loop-i
invariant-loop-i l = Noting l.located.table.words.now l.located.table.checks l.live l.count l.names l.i
