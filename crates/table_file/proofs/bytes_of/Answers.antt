-- `table_file::bytes_of` meets its contract. The loop's invariant: the first i words stand in the file.
use mathlib.Core.Path.{◌≡◌}
use native.Mathlib.Omega.{arith}
use lib.ListN.{length, length-set}
use Rattle.table_file.proofs.Laws.{bytes_next, bytes-all}
use Rattle.table_file.proofs.bytes_of.Goals as goal

pub loop-i-init : goal.loop-i-init
loop-i-init c = record { within = omega arith; long = omega arith; lows = λ k h. absurd (omega arith); highs = λ k h. absurd (omega arith) }

pub bounds-file-i-in-loop-i : goal.bounds-file-i-in-loop-i
bounds-file-i-in-loop-i c = simp length-set (omega arith)

pub loop-i-preserved : goal.loop-i-preserved
loop-i-preserved c =
    let s = c.loop-i in
    bytes_next _ s.file s.i _ _ s.invariant (omega arith) c.low.ensures c.high.ensures

pub returns : goal.returns
returns c =
    let s = c.loop-i in
    let w = c.args.words.now in
    let e : s.i ≡ length w = omega arith in
    bytes-all w s.file (rw e at s.invariant)
