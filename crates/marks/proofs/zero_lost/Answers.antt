-- `marks::zero_lost` meets its contract.
use Rattle.table.specs.Packets.{joined}
use Rattle.marks.proofs.BlockLaws.{cleared-hit, cleared-miss, cleared-end}
use mathlib.Core.Path.{sym, ap, ◌∙◌}
use native.Mathlib.Omega.{arith}
use Prim.Native.Nat.{◌<◌}
use Rattle.marks.proofs.zero_lost.Goals as goal
use Rattle.marks.proofs.zero_lost.Goals.{then-mark-eq1, else-mark-eq1}

pub loop-p-preserved : goal.loop-p-preserved
loop-p-preserved c =
    let a = c.args in
    let s = c.loop-p in
    let more : s.p < a.table.now.places = omega (arith, c.requires.1) in
    elim c.if-mark-eq1.branch [
      | then-mark-eq1 w ↦ let z = cleared-hit a.table.now.size a.table.now.places a.map.now s.block s.invariant.0 c.requires.1 s.p more c.if-mark-eq1.block (w.block-is ∙ w.clear.ensures) w.if-mark-eq1.true in
          (z.0, s.invariant.1 ∙ z.1)
      | else-mark-eq1 w ↦ let e = w.block-is in (rw e s.invariant.0, s.invariant.1 ∙ rw e (cleared-miss a.table.now.size a.table.now.places a.map.now s.block s.invariant.0 c.requires.1 s.p more w.if-mark-eq1.false))
    ]

pub returns : goal.returns
returns c =
    let a = c.args in
    let s = c.loop-p in
    sym (ap joined s.invariant.1 ∙ cleared-end a.table.now.size a.table.now.places a.map.now s.block s.invariant.0 s.p (omega (arith, c.requires.1)))
