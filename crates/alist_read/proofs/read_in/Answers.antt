-- `read_in` meets its contract.
use Rattle.numbers.specs.Numbers.{numbers_in}
use Rattle.alist_read.proofs.Answering.{answer-12, none_read, few-read, four-read}
use Rattle.alist_read.proofs.read_in.Goals as goal

pub returns-in_default : goal.returns-in_default
returns-in_default c =
    let a = c.args in
    let x = answer-12 a.text.now a.s a.table.now (none_read (numbers_in a.text.now) c.in_default.ensures) in
    record { answer = x.answer; table = x.table }

pub returns-then-count-lt4 : goal.returns-then-count-lt4
returns-then-count-lt4 c =
    let a = c.args in
    let x = answer-12 a.text.now a.s a.table.now (few-read (numbers_in a.text.now) _ c.in-Some.ensures c.if-count-lt4.true) in
    record { answer = x.answer; table = x.table }

pub returns : goal.returns
returns c =
    let f = four-read _ c.in-Some.ensures c.if-count-lt4.false c.read-n.ensures c.read-m.ensures c.read-a.ensures c.read-b.ensures in
    let x = c.read_rest.ensures c.requires.1 f.others f.numbers-are f.ahead f.counts in
    record { answer = x.answer; table = x.table }
