-- `text::put_number` meets its contract: the digits are appended.
use mathlib.Core.Path.{◌∙◌}
use Rattle.text.specs.LinesLaws.{same_word}
use Rattle.text.proofs.Laws.{number_digits}
use Rattle.text.proofs.put_number.Goals as goal

pub put-requires : goal.put-requires
put-requires c =
    let d = c.decimal-k in
    let e = d.ensures.digits ∙ number_digits d.result _ c.ranges.x.fits d.ensures.len in
    rw e c.requires

pub returns : goal.returns
returns c =
    let d = c.decimal-k in
    let x = c.ranges.x.fits in
    same_word (d.ensures.digits ∙ number_digits d.result _ x d.ensures.len) c.put.ensures
