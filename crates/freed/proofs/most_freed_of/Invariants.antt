-- `freed::most_freed_of` meets its contract: the rest of the scan decides.
use Rattle.std.proofs.Common.{◌≡◌, ◌-◌}
use Rattle.table.specs.Checks.{check}
use Rattle.freed.specs.Most.{lives, most_from, twos}
use Rattle.freed.proofs.most_freed_of.Given as goal

abbrev pub invariant-loop-i : goal.invariant-loop-i
invariant-loop-i l = most_from (λ j. twos l.count (check l.located.table.words.now l.m j)) l.m 0 (lives l.live 0 l.m) ≡ most_from (λ j. twos l.count (check l.located.table.words.now l.m j)) l.best l.w (lives l.live l.i (l.m - l.i))
