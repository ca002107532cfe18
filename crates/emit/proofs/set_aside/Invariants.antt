-- `emit::set_aside` meets its contract: the checks that are left, into their scratch slots.
use Rattle.lists.specs.WroteLaws.{Left}
use Rattle.emit.proofs.Passes.{scratches}
use Rattle.emit.proofs.set_aside.Given as goal

abbrev pub invariant-loop-i : goal.invariant-loop-i
invariant-loop-i l =
    Left l.initial.plan l.at (scratches l.skip l.located.table.words.now l.aside l.g 0) (scratches l.skip l.located.table.words.now l.aside l.g l.i) l.plan l.k
