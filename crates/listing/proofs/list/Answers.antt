-- `listing::list` meets its contract: refusal 3, or the text of the file's words.
use mathlib.Core.Path.{sym, ◌∙◌}
use Rattle.table_file.proofs.WordsLaws.{words-none, words-within}
use Rattle.text.specs.LinesLaws.{same_word}
use Rattle.plan_text.specs.PlanTextLaws.{refused-room}
use Rattle.listing.proofs.Tables.{at-start, unfit-text, words-text, word_buffer, word_room}
use Rattle.listing.proofs.list.Goals as goal

pub put_refused-requires : goal.put_refused-requires
put_refused-requires c = refused-room _ c.args.out.now c.requires

pub returns-in_default : goal.returns-in_default
returns-in_default c =
    let f = c.args.file.now in
    let q = at-start (same_word (unfit-text f (words-none f (sym c.words_in.ensures.answer ∙ c.in_default.is))) c.put_refused.ensures) in
    record { text = q.0; length = q.1.0; within = q.1.1 }

pub slice_bounds-words-end : goal.slice_bounds-words-end
slice_bounds-words-end c = let w = c.words_in.ensures in (words-within c.args.file.now word_buffer word_room w.answer w.words c.in-Some.is).0

pub slice_bounds-list_table-end : goal.slice_bounds-list_table-end
slice_bounds-list_table-end c = let w = c.words_in.ensures in (words-within c.args.file.now word_buffer word_room w.answer w.words c.in-Some.is).1

pub returns : goal.returns
returns c =
    let w = c.words_in.ensures in
    let q = at-start (same_word (words-text c.args.file.now w.answer w.words c.in-Some.is) c.list_table.ensures) in
    record { text = q.0; length = q.1.0; within = q.1.1 }
