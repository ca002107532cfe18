-- `peel::peel_checks` meets its contract: `Going` holds at each turn.
use Rattle.live.specs.Live.{Calm}
use Rattle.peel.proofs.Events.{Going}
use Rattle.peel.proofs.peel_checks.Given as goal

abbrev pub invariant-loop-left : goal.invariant-loop-left
invariant-loop-left l = record {
  going : Going l.located.table.words.now l.located.table.checks l.located.table.places l.total l.initial.live l.live l.count l.names l.order l.owns l.aside l.taken l.put l._left;
  calm : Calm l.count l.top;
}
