-- `plan_text::put_places` meets its contract: the places of the second line, one after the other.
use Rattle.std.proofs.Common.{map, drop}
use Rattle.numerals.specs.Numerals.{decimal}
use Rattle.text.specs.Lines.{words_after_blanks}
use Rattle.text.specs.LinesLaws.{Left}
use Rattle.plan_text.proofs.put_places.Given as goal

abbrev pub invariant-loop-place : goal.invariant-loop-place
invariant-loop-place l =
    Left l.initial.out l.initial.end (words_after_blanks (map decimal l.places)) l.out l.end (words_after_blanks (map decimal (drop l.place-index l.places)))
