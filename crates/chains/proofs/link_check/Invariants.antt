-- `chains::link_check` meets its contract.
use Rattle.chains.specs.Linked.{Links}
use Rattle.chains.proofs.Linking.{partly}
use Prim.Native.Nat.{ℕ, ◌-◌}
use mathlib.Core.Path.{◌≡◌}
use mathlib.Core.List.{List}
use lib.ListN.{length, take, drop}
use Rattle.chains.proofs.link_check.Given as goal

abbrev pub invariant-loop-i : goal.invariant-loop-i
invariant-loop-i l = (length l.head ≡ length l.initial.head) × (length l.next ≡ length l.initial.next) × (length l.owner ≡ length l.initial.owner) × ((L : ℕ → List ℕ) → Links l.initial.next l.initial.owner l.initial.head l.at L → Links l.next l.owner l.head l.i (partly (take (l.i - l.at) (drop l.at l.t)) l.j L))
