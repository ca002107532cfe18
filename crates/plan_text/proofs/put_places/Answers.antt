-- `plan_text::put_places` meets its contract: the places of the second line, one after the other.
use Rattle.std.proofs.Common.{refl, get_or, ◌+◌, ◌++◌, map, drop, arith}
use Rattle.numerals.specs.Numerals.{decimal}
use Rattle.text.specs.Lines.{bytes, words_after_blanks}
use Rattle.text.specs.LinesLaws.{left-all, left-room, left-next, left-last}
use Rattle.plan_text.proofs.Turns.{next_place, last-place}
use Rattle.plan_text.proofs.put_places.Goals as goal

pub loop-place-init : goal.loop-place-init
loop-place-init c = left-all _ _ _ c.requires

pub put_count-end-requires : goal.put_count-end-requires
put_count-end-requires c =
    let s = c.loop-place in
    left-room (bytes " " ++ decimal (get_or c.args.places.now s.place-index 0)) _ (next_place c.args.places.now s.place-index _ c.loop-place-test.true refl s.invariant)

pub loop-place-preserved : goal.loop-place-preserved
loop-place-preserved c =
    let s = c.loop-place in
    left-next (words_after_blanks (map decimal (drop (s.place-index + 1) c.args.places.now))) c.put_count-end.ensures
    (next_place c.args.places.now s.place-index _ c.loop-place-test.true refl s.invariant)

pub put-requires : goal.put-requires
put-requires c = let s = c.loop-place in (last-place c.args.places.now s.place-index (omega arith) s.invariant).room

pub returns : goal.returns
returns c = let s = c.loop-place in left-last (last-place c.args.places.now s.place-index (omega arith) s.invariant) c.put.ensures
