-- `tracing::note_feeders` meets its contract: the places so far are noted.
use mathlib.Core.List.{map}
use lib.ListN.{take}
use Rattle.bits.specs.Row.{RowPut}
use Rattle.gf2.specs.Gf2.{row_of}
use Rattle.tracing.specs.Tracing.{number_in}
use Rattle.tracing.proofs.note_feeders.Given as goal

abbrev pub invariant-loop-q : goal.invariant-loop-q
invariant-loop-q l = RowPut l.initial.feed l.k (row_of (map (number_in l.owner) (take l.q-index l.noted))) l.feed
