-- `tracing::load_lost` meets its contract: the places so far are loaded.
use lib.ListN.{take}
use Rattle.bits.specs.Row.{RowPut}
use Rattle.reasons.specs.Mirror.{mirror_row}
use Rattle.tracing.proofs.load_lost.Given as goal

abbrev pub invariant-loop-q : goal.invariant-loop-q
invariant-loop-q l = RowPut l.initial.w l.k (mirror_row l.n l.lost (take l.q-index l.places)) l.w
