-- `text::print_count` is safe: a number has at most 20 digits.
use native.Mathlib.Omega.{arith}
use lib.ListN.{length-append}
use Rattle.numerals.specs.NumeralLaws.{decimal-most}
use Rattle.text.proofs.print_count.Goals as goal

pub put_count-at-requires : goal.put_count-at-requires
put_count-at-requires g c = let d = decimal-most c.args.x in simp length-append (omega arith)

pub put-at-requires : goal.put-at-requires
put-at-requires g c = let d = decimal-most c.args.x in omega (arith, simp length-append at c.put_count-at.ensures.ends)
