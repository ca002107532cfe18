-- `columns::spread` meets its contract: so many places are marked.
use Rattle.std.proofs.Common.{bit_xor, take}
use Rattle.live.specs.Live.{Upd}
use Rattle.columns.proofs.spread.Given as goal

abbrev pub invariant-loop-p : goal.invariant-loop-p
invariant-loop-p l = Upd (λ a. bit_xor a l.c) l.initial.col (take l.p-index l.places) l.col
