-- `live::forget` meets its contract: so many places are marked.
use Rattle.std.proofs.Common.{◌-◌, take}
use Rattle.live.specs.Live.{Marked}
use Rattle.live.proofs.forget.Given as goal

abbrev pub invariant-loop-p : goal.invariant-loop-p
invariant-loop-p l = Marked (λ a. a - 1) l.initial.count l.initial.names (take l.p-index l.places) l.j l.count l.names
