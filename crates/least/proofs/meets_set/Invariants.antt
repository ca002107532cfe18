-- `least::meets_set` meets its contract: the bits below q are looked at.
use mathlib.Core.Path.{◌≡◌}
use Rattle.bits.specs.Row.{row}
use Rattle.gf2.specs.Separate.{meets}
use Rattle.least.specs.Solved.{in_set}
use Rattle.least.proofs.meets_set.Given as goal

abbrev pub invariant-loop-q : goal.invariant-loop-q
invariant-loop-q l = l.odd ≡ meets (in_set l.set) l.q (row l.w l.r)
