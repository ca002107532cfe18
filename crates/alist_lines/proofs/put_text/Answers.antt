-- `put_text` meets its contract: the lines go into the buffer's part below the limit.
use mathlib.Core.Path.{sym}
use lib.Seq.{length-take-le}
use Rattle.alist.specs.AlistText.{number_lines}
use Rattle.alist_lines.specs.Lines.{lines}
use Rattle.alist_numbers.specs.PutLaws.{put-below}
use Rattle.alist_lines.proofs.put_text.Goals as goal

pub slice_bounds-put_lines-end-2 : goal.slice_bounds-put_lines-end-2
slice_bounds-put_lines-end-2 c = sym (length-take-le c.args.limit c.args.text.now c.requires.0)

pub returns : goal.returns
returns c =
    let p = c.put_lines.ensures in
    let a = c.args in
    (put-below a.text.now a.limit (number_lines (lines a.columns.now a.n a.a a.rows.now a.m a.b)) c.requires.0 p.0, p.1)
