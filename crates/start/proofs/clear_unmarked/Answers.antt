-- `start::clear_unmarked` meets its contract: the packets below i are done, the others as they were.
use Rattle.std.proofs.Common.{arith}
use native.Mathlib.Nat.{mul-le-mul_right}
use Rattle.start.specs.RunBytes.{run-bytes}
use Rattle.start.proofs.ClearLaws.{gap_more}
use Rattle.start.proofs.clear_unmarked.Goals as goal

pub clear-requires : goal.clear-requires
clear-requires c =
    let a = c.args in let v = c.past-to.ensures in
    omega (arith, run-bytes c.past-from.result c.past-to.result a.high a.s v.from v.upto, c.requires.bytes, c.loop-i.auto.b)

pub loop-i-preserved : goal.loop-i-preserved
loop-i-preserved c =
    let a = c.args in let l = c.loop-i in let u = c.past-from.ensures in let v = c.past-to.ensures in let m = mul-le-mul_right a.s v.upto in record {
      cleared = rw c.clear.ensures
          (gap_more a.marks.now a.s a.first a.low l.i _ _ a.b.now l.b l.invariant.from u.from v.from (omega (arith, c.requires.bytes, l.auto.b)) u.each l.invariant.cleared);
      from = omega (arith, u.from, v.from);
      upto = v.upto;
    }
