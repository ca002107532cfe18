-- `text::put_count` meets its contract: the word and the digits are appended.
use mathlib.Core.Path.{ap}
use native.Mathlib.Omega.{arith}
use lib.ListN.{length, length-append}
use Rattle.text.specs.LinesLaws.{both_words}
use Rattle.text.proofs.put_count.Goals as goal

pub put-at-requires : goal.put-at-requires
put-at-requires c = omega (arith, simp length-append at c.requires)

pub put_number-requires : goal.put_number-requires
put_number-requires c =
    let l = ap length c.put-at.ensures.is in
    omega (arith, c.put-at.ensures.ends, simp length-append at c.requires)

pub returns : goal.returns
returns c =
    let h = simp length-append at c.requires in
    both_words (omega arith) c.put-at.ensures c.put_number.ensures
