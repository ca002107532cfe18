-- `blame::next_suspect` meets its contract: the rest decides.
use mathlib.Core.Path.{◌≡◌}
use Prim.Native.Nat.{◌-◌}
use Rattle.lists.specs.Lists.{from, filter}
use Rattle.suspects.specs.Blame.{suspect}
use Rattle.blame.proofs.next_suspect.Given as goal

abbrev pub invariant-loop-p : goal.invariant-loop-p
invariant-loop-p l =
    (l.block ≡ l.initial.block) × (l.map ≡ l.initial.map) × (l.column ≡ l.initial.column) × (filter (suspect l.table.words.now l.initial.block l.initial.map) (from l.first (l.table.places - l.first)) ≡ filter (suspect l.table.words.now l.initial.block l.initial.map) (from l.p (l.table.places - l.p)))
