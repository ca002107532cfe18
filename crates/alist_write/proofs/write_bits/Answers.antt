-- `write_bits` meets its contract: the text is measured, and put if there is room.
use Rattle.alist_numbers.specs.PutLaws.{below-is}
use Rattle.alist_write.proofs.Whole.{whole-text, answer-short, answer-written}
use Rattle.alist_write.proofs.write_bits.Goals as goal

pub returns-then-text-length : goal.returns-then-text-length
returns-then-text-length c =
    let a = c.args in
    let w = whole-text a.columns.now a.n _ a.rows.now a.m _ c.heaviest-a.ensures.0 c.heaviest-b.ensures.0 in
    let x = answer-short a.text.now _ (below-is w c.put_text-length.ensures.0) c.if-text-length.true in
    record { answer = x.answer; text = x.text }

pub returns : goal.returns
returns c =
    let a = c.args in
    let w = whole-text a.columns.now a.n _ a.rows.now a.m _ c.heaviest-a.ensures.0 c.heaviest-b.ensures.0 in
    let x = answer-written a.text.now _ (below-is w c.put_text-length.ensures.0) c.if-text-length.false (below-is w c.put_text.ensures.0) in
    record { answer = x.answer; text = x.text }
