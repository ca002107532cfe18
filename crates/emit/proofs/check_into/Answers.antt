-- `emit::check_into` meets its contract: the places of the check, as the table has them.
use native.Mathlib.Omega.{arith}
use Rattle.lists.specs.ListLaws.{all_map}
use Rattle.table.specs.Accepted.{few-places}
use Rattle.emit.proofs.Passes.{check-low}
use Rattle.emit.proofs.check_into.Goals as goal

pub check-requires : goal.check-requires
check-requires c = rw c.args.located.now.table.accepted.number_is c.requires.check

pub sum_check-requires : goal.sum_check-requires
sum_check-requires c =
    let a = c.args.located.now.table.accepted in
    let few = few-places _ _ _ _ a in
    let low = check-low a c.args.j (rw a.number_is c.requires.check) in
    rw (c.check.ensures, a.number_is) (record { room = c.requires.room; check = all_map (λ p h. omega arith) (rw a.number_is at low); marks = c.requires.table.all; slot = c.requires.slot })

pub returns : goal.returns
returns c = rw (c.check.ensures, c.args.located.now.table.accepted.number_is) at c.sum_check.ensures
