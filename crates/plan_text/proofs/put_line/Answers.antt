-- `plan_text::put_line` meets its contract: a word, a number and the line's end, one after the other.
use native.Mathlib.Omega.{arith}
use lib.ListN.{length-append}
use Rattle.text.specs.LinesLaws.{both_words}
use Rattle.plan_text.proofs.put_line.Goals as goal

pub put_count-at-requires : goal.put_count-at-requires
put_count-at-requires c = let h = simp length-append at c.requires in simp length-append (omega arith)

pub put-requires : goal.put-requires
put-requires c = omega (arith, simp length-append at c.put_count-at.ensures.ends, simp length-append at c.requires)

pub returns : goal.returns
returns c =
    let h = simp length-append at c.requires in
    both_words (simp length-append (omega arith)) c.put_count-at.ensures c.put.ensures
