-- `freed::freed_in` meets its contract: so many of the places before.
use Rattle.std.proofs.Common.{◌≡◌, ◌≤◌, ◌+◌, drop}
use Rattle.freed.specs.Most.{twos}
use Rattle.freed.proofs.freed_in.Given as goal

abbrev pub invariant-loop-p : goal.invariant-loop-p
invariant-loop-p l = record { few : l.r ≤ l.p-index; counted : twos l.count l.places ≡ l.r + twos l.count (drop l.p-index l.places) }
