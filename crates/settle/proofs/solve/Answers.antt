-- `settle::solve` meets its contract.
use mathlib.Core.Bool.{false}
use mathlib.Core.Path.{◌≡◌}
use Rattle.std.specs.Result.{is_ok}
use Rattle.std.proofs.Common.{rules}
use Rattle.lists.specs.ListLaws.{get_d-zeros}
use Rattle.table.specs.Accepted.{few-places}
use Rattle.eliminate.specs.EliminatingLaws.{checks-low}
use Rattle.settle.proofs.Solving.{solved, clashed}
use Rattle.settle.proofs.solve.Goals as goal

pub take_all-requires : goal.take_all-requires
take_all-requires c =
    let p = c.requires in
    record { room = (p.room.0, p.room.1, p.room.2, few-places _ _ _ _ c.args.table.now.accepted); unowned = get_d-zeros 1024; known = p.known.0 }

pub returns-in_err-take_all : goal.returns-in_err-take_all
returns-in_err-take_all c =
    let e : is_ok c.from_residual.result ≡ false = search rules in
    rw e (clashed c.in_err-take_all.ensures)

pub returns : goal.returns
returns c =
    let p = c.requires in
    solved p.room.0 (checks-low _ _ _ _ c.args.table.now.accepted) p.known.1 c.in_ok-take_all.ensures c.settle_all.ensures
