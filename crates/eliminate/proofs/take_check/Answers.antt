-- `eliminate::take_check` meets its contract: the check's places in the buffer, those received and then those that lead the rows added, are summed.
use Prim.Native.Nat.{◌-◌}
use mathlib.Core.Path.{sym, ◌∙◌}
use native.Mathlib.Omega.{arith}
use lib.ListN.{length, drop}
use Rattle.lists.specs.Buffers.{part_length}
use Rattle.bits.specs.Front.{front_length}
use Rattle.rows.specs.Leads.{leads}
use Rattle.rows.specs.LeadsLaws.{lowered-as}
use Rattle.packets.specs.GivenLaws.{of-check}
use Rattle.eliminate.specs.EliminatingLaws.{noted_in}
use Rattle.eliminate.proofs.Taking.{received-few, reducible, path-as, noted-part, summed-low, none-lost, skipped, zero-lowered, judged-calm, judged-clash, kept-sum}
use Rattle.eliminate.proofs.take_check.Goals as goal

pub part_check-have-requires : goal.part_check-have-requires
part_check-have-requires c =
    let p = c.requires in
    let f = p.rows.1 in
    let r = p.rows.3 in
    (p.rows.0, rw p.map p.given.below, omega arith, omega arith)

pub returns-then-have-places : goal.returns-then-have-places
returns-then-have-places c =
    let d = c.part_check-have.ensures in
    let none = none-lost c.args.map.now _ (sym d.noted.count ∙ c.if-have-places.true) in
    record { row = zero-lowered c.args.map.now c.args.places.now none _ _ d.row; sum = skipped _ _ _ _ _ _ c.requires.given c.requires.known none }

pub reduce-r-requires : goal.reduce-r-requires
reduce-r-requires c =
    let d = c.part_check-have.ensures in
    let h = received-few c.args.map.now _ d.noted.count in
    let r = c.requires.rows.3 in
    let l = front_length d.noted (omega arith) in
    let x = c.part_check-have.new.noted in
    record { rows = reducible c.requires.rows.4 _ c.args.map.now _ c.requires.given.below d.row c.requires.rows.0 c.requires.rows.1 c.requires.rows.2; room = omega (arith, part_length x c.part_check-have.result (length x - c.part_check-have.result) (omega arith)) }

pub restore-requires : goal.restore-requires
restore-requires c =
    let d = c.part_check-have.ensures in
    let g = path-as c.requires.rows.4 _ c.args.map.now _ c.requires.given.below d.row c.reduce-r.ensures.path in
    let m = rw c.in-Some.is at c.reduce-r.ensures.row.most in
    (of-check _ _ _ _ _ _ (noted_in (noted-part d.noted g (drop (length c.part_check-have.new.noted - c.part_check-have.result) (drop c.part_check-have.result c.part_check-have.new.noted))) _ _ _ (summed-low _ c.args.map.now (leads c.args.w.now c.args.owner.now) c.requires.given.below) c.requires.given.bytes), omega arith)

pub sum_of_check-requires : goal.sum_of_check-requires
sum_of_check-requires c =
    let d = c.part_check-have.ensures in
    let g = path-as c.requires.rows.4 _ c.args.map.now _ c.requires.given.below d.row c.reduce-r.ensures.path in
    of-check _ _ _ _ _ _ (noted_in (noted-part d.noted g (drop (length c.part_check-have.new.noted - c.part_check-have.result) (drop c.part_check-have.result c.part_check-have.new.noted))) _ _ _ (summed-low _ c.args.map.now (leads c.args.w.now c.args.owner.now) c.requires.given.below) c.requires.given.bytes)

pub returns-then-is_some : goal.returns-then-is_some
returns-then-is_some c =
    let d = c.part_check-have.ensures in
    let g = path-as c.requires.rows.4 _ c.args.map.now _ c.requires.given.below d.row c.reduce-r.ensures.path in
    record {
      row = rw c.in-None.is at (lowered-as c.requires.rows.4 d.row c.reduce-r.ensures.row);
      sum = judged-clash _ _ _ _ _ _ c.requires.given (noted-part d.noted g (drop (length c.part_check-have.new.noted - c.part_check-have.result) (drop c.part_check-have.result c.part_check-have.new.noted))) _ c.is_some.ensures c.if-is_some.true c.sum_of_check.ensures;
    }

pub returns-else-is_some : goal.returns-else-is_some
returns-else-is_some c =
    let d = c.part_check-have.ensures in
    let g = path-as c.requires.rows.4 _ c.args.map.now _ c.requires.given.below d.row c.reduce-r.ensures.path in
    record {
      row = lowered-as c.requires.rows.4 d.row c.reduce-r.ensures.row;
      sum = rw c.in-None.is (judged-calm _ _ _ _ _ _ c.requires.given (noted-part d.noted g (drop (length c.part_check-have.new.noted - c.part_check-have.result) (drop c.part_check-have.result c.part_check-have.new.noted))) _ c.is_some.ensures c.if-is_some.false c.sum_of_check.ensures);
    }

pub returns-in-Some : goal.returns-in-Some
returns-in-Some c =
    let d = c.part_check-have.ensures in
    let g = path-as c.requires.rows.4 _ c.args.map.now _ c.requires.given.below d.row c.reduce-r.ensures.path in
    record {
      row = lowered-as c.requires.rows.4 d.row c.reduce-r.ensures.row;
      sum = rw c.in-Some.is (kept-sum _ _ _ _ _ _ c.requires.given (noted-part d.noted g (drop (length c.part_check-have.new.noted - c.part_check-have.result) (drop c.part_check-have.result c.part_check-have.new.noted))) c.restore.ensures);
    }
