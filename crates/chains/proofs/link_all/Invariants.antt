-- `chains::link_all` meets its contract.
use Rattle.table.specs.Checks.{offset, check}
use Rattle.chains.specs.Linked.{Links, holders}
use Prim.Native.Nat.{◌+◌}
use mathlib.Core.Path.{◌≡◌}
use lib.ListN.{length}
use Rattle.chains.proofs.link_all.Given as goal

abbrev pub invariant-loop-j : goal.invariant-loop-j
invariant-loop-j l = (length l.head ≡ length l.initial.head) × (length l.next ≡ length l.initial.next) × (length l.owner ≡ length l.initial.owner) × Links l.next l.owner l.head (5 + l.located.table.checks + offset l.located.table.words.now l.j) (λ p. holders (check l.located.table.words.now l.located.table.checks) p l.j)
