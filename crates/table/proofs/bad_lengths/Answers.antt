-- `bad_lengths` meets its contract: the tests of cause 3.
use Rattle.table.proofs.Looking.{length-short, length-ones, length-sum, length-exact}
use Rattle.table.proofs.bad_lengths.Goals as goal

pub returns-then-t-m : goal.returns-then-t-m
returns-then-t-m c = length-short c.args.t.now _ c.from-m.ensures c.if-t-m.true

pub returns-then-ones-gt-MOST_ONES : goal.returns-then-ones-gt-MOST_ONES
returns-then-ones-gt-MOST_ONES c = length-ones c.args.t.now _ c.from-m.ensures _ c.from-ones.ensures c.if-ones-gt-MOST_ONES.true

pub returns-then-ones-sum : goal.returns-then-ones-sum
returns-then-ones-sum c = length-sum c.args.t.now _ c.from-m.ensures _ c.from-ones.ensures _ (rw c.run.ensures at c.in-Some.ensures) c.if-ones-sum.true

pub returns : goal.returns
returns c =
    length-exact c.args.t.now _ c.from-m.ensures _ c.from-ones.ensures _ (rw c.run.ensures at c.in-Some.ensures) c.if-t-m.false c.if-ones-gt-MOST_ONES.false c.if-ones-sum.false
