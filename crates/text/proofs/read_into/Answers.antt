-- `text::read_into` meets its contract: what is read lies within the buffer, and each turn reads at least a byte.
use mathlib.Core.Path.{sym}
use native.Mathlib.Omega.{arith}
use lib.Seq.{length-take-le}
use Rattle.text.specs.Files.{read_count}
use Rattle.text.proofs.read_into.Goals as goal

pub returns-then-more-eq0 : goal.returns-then-more-eq0
returns-then-more-eq0 g c = (omega arith, sym (length-take-le _ _ (omega arith)))

pub overflow_add-n : goal.overflow_add-n
overflow_add-n g c = let m = read_count _ c.in_ok-more.ensures c.in-Some.is in omega (arith, m.0)

pub loop-n-preserved : goal.loop-n-preserved
loop-n-preserved g c = let m = read_count _ c.in_ok-more.ensures c.in-Some.is in omega (arith, m.0)

pub returns : goal.returns
returns g c = (omega arith, sym (length-take-le _ _ (omega arith)))
