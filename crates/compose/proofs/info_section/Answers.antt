-- `compose::info_section` meets its contract: the places, and then their count.
use mathlib.Core.Path.{◌≡◌}
use mathlib.Core.List.{◌++◌}
use Prim.Native.Nat.{◌+◌}
use native.Mathlib.Omega.{arith}
use lib.ListN.{length, take}
use Rattle.lists.specs.Lists.{below, rev, minus, Wrote}
use Rattle.table.specs.Table.{most_places}
use Rattle.emit.specs.Emit.{marked}
use Rattle.emit.specs.MarkLaws.{below_more}
use Rattle.lists.specs.WroteLaws.{wrote_count, wrote-is}
use Rattle.compose.proofs.Sections.{info-few, used-long, info-is}
use Rattle.compose.proofs.info_section.Goals as goal

pub mark-requires : goal.mark-requires
mark-requires c =
    below_more c.requires.fitted c.requires.places

pub mark-requires-2 : goal.mark-requires-2
mark-requires-2 c = below_more c.requires.own (let l : length c.mark.new.marks ≡ most_places = c.used-2-1.given in omega arith)

pub unmarked-k-requires : goal.unmarked-k-requires
unmarked-k-requires c =
    let a = c.args in
    let i = info-is a.n a.owns.now a.fitted.now a.taken a.g c.requires.own c.requires.fitted c.requires.places c.mark.new.marks c.mark-2.new.marks c.mark.ensures c.mark-2.ensures in
    let l = used-long a.n a.owns.now a.fitted.now a.taken a.g c.requires.own c.requires.fitted c.requires.places c.mark.new.marks c.mark-2.new.marks c.mark.ensures c.mark-2.ensures in
    record { room = rw i c.requires.room; marks = omega arith; places = omega arith }

pub overflow_cast-plan : goal.overflow_cast-plan
overflow_cast-plan c =
    let a = c.args in
    let i = info-is a.n a.owns.now a.fitted.now a.taken a.g c.requires.own c.requires.fitted c.requires.places c.mark.new.marks c.mark-2.new.marks c.mark.ensures c.mark-2.ensures in
    let l = used-long a.n a.owns.now a.fitted.now a.taken a.g c.requires.own c.requires.fitted c.requires.places c.mark.new.marks c.mark-2.new.marks c.mark.ensures c.mark-2.ensures in
    let w = c.unmarked-k.ensures.next in
    let f = info-few a.n (marked c.mark-2.new.marks) in
    omega arith

pub returns : goal.returns
returns c =
    let a = c.args in
    let i = info-is a.n a.owns.now a.fitted.now a.taken a.g c.requires.own c.requires.fitted c.requires.places c.mark.new.marks c.mark-2.new.marks c.mark.ensures c.mark-2.ensures in
    let l = used-long a.n a.owns.now a.fitted.now a.taken a.g c.requires.own c.requires.fitted c.requires.places c.mark.new.marks c.mark-2.new.marks c.mark.ensures c.mark-2.ensures in
    let w : Wrote a.plan.now (a.at + 1) (minus (rev (below a.n)) (take a.taken a.owns.now ++ take a.g a.fitted.now)) c.unmarked-k.new.plan c.unmarked-k.result = wrote-is c.unmarked-k.ensures i in
    wrote_count c.requires.room w
