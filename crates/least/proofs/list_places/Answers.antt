-- `least::list_places` meets its contract.
use native.Mathlib.Omega.{arith}
use Rattle.bits.specs.Front.{front-is}
use Rattle.rows.specs.Leads.{leads}
use Rattle.least.proofs.Solving.{solved-list}
use Rattle.least.proofs.list_places.Goals as goal

pub returns-clause-list : goal.returns-clause-list
returns-clause-list c =
    let a = c.args in
    let p = c.requires in
    let few = p.room.2 in
    let low = p.room.3 in
    front-is c.write_places.ensures.list (solved-list (leads a.w.now a.owner.now) a.n a.f _ (omega arith) c.solve_set.ensures)
