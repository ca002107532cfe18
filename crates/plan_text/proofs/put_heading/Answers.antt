-- `plan_text::put_heading` meets its contract: the words and numbers of the first line, one after the other.
use mathlib.Core.List.{◌++◌}
use Rattle.text.specs.LinesLaws.{left-all, left-room, left-next, left-last}
use Rattle.numerals.specs.Numerals.{decimal}
use Rattle.text.specs.Lines.{bytes}
use Rattle.plan_text.specs.PlanText.{heading}
use Rattle.plan_text.proofs.Rests.{from_size, from_kept, from_ones, from_gap}
use Rattle.plan_text.proofs.put_heading.Goals as goal

pub put_count-at-requires : goal.put_count-at-requires
put_count-at-requires c =
    let a = c.args in
    left-room (bytes "places " ++ decimal a.n) (from_size a.s a.kept a.ones a.gap)
    (left-all a.out.now a.at (heading a.n a.s a.kept a.ones a.gap) c.requires)

pub put_count-at-requires-2 : goal.put_count-at-requires-2
put_count-at-requires-2 c =
    let a = c.args in
    let l0 = left-all a.out.now a.at (heading a.n a.s a.kept a.ones a.gap) c.requires in
    let l1 = left-next (from_size a.s a.kept a.ones a.gap) c.put_count-at.ensures l0 in
    left-room (bytes " size " ++ decimal a.s) (from_kept a.kept a.ones a.gap) l1

pub put_count-at-requires-3 : goal.put_count-at-requires-3
put_count-at-requires-3 c =
    let a = c.args in
    let l0 = left-all a.out.now a.at (heading a.n a.s a.kept a.ones a.gap) c.requires in
    let l1 = left-next (from_size a.s a.kept a.ones a.gap) c.put_count-at.ensures l0 in
    let l2 = left-next (from_kept a.kept a.ones a.gap) c.put_count-at-2.ensures l1 in
    left-room (bytes " kept " ++ decimal a.kept) (from_ones a.ones a.gap) l2

pub put_count-at-requires-4 : goal.put_count-at-requires-4
put_count-at-requires-4 c =
    let a = c.args in
    let l0 = left-all a.out.now a.at (heading a.n a.s a.kept a.ones a.gap) c.requires in
    let l1 = left-next (from_size a.s a.kept a.ones a.gap) c.put_count-at.ensures l0 in
    let l2 = left-next (from_kept a.kept a.ones a.gap) c.put_count-at-2.ensures l1 in
    let l3 = left-next (from_ones a.ones a.gap) c.put_count-at-3.ensures l2 in
    left-room (bytes " ones " ++ decimal a.ones) (from_gap a.gap) l3

pub put_line-requires : goal.put_line-requires
put_line-requires c =
    let a = c.args in
    let l0 = left-all a.out.now a.at (heading a.n a.s a.kept a.ones a.gap) c.requires in
    let l1 = left-next (from_size a.s a.kept a.ones a.gap) c.put_count-at.ensures l0 in
    let l2 = left-next (from_kept a.kept a.ones a.gap) c.put_count-at-2.ensures l1 in
    let l3 = left-next (from_ones a.ones a.gap) c.put_count-at-3.ensures l2 in
    (left-next (from_gap a.gap) c.put_count-at-4.ensures l3).room

pub returns : goal.returns
returns c =
    let a = c.args in
    let l0 = left-all a.out.now a.at (heading a.n a.s a.kept a.ones a.gap) c.requires in
    let l1 = left-next (from_size a.s a.kept a.ones a.gap) c.put_count-at.ensures l0 in
    let l2 = left-next (from_kept a.kept a.ones a.gap) c.put_count-at-2.ensures l1 in
    let l3 = left-next (from_ones a.ones a.gap) c.put_count-at-3.ensures l2 in
    let l4 = left-next (from_gap a.gap) c.put_count-at-4.ensures l3 in
    left-last l4 c.put_line.ensures
