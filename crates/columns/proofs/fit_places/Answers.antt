-- `columns::fit_places` meets its contract.
use Rattle.columns.proofs.Inverse.{asks-aside, asks-taken, no-columns, all-fitted}
use Rattle.table.specs.Accepted.{few-places}
use native.Mathlib.Omega.{arith}
use borrow.Author.Rules.{rules}
use Rattle.columns.proofs.fit_places.Goals as goal

pub fill_columns-requires : goal.fill_columns-requires
fill_columns-requires c =
    let y = c.requires.ready in
    let e = y.located.table.places-are in
    let f = few-places _ _ _ _ y.located.table in
    record { aside = asks-aside y; room = omega arith; empty = no-columns 1024 }

pub push_all-requires : goal.push_all-requires
push_all-requires c =
    let y = c.requires.ready in
    let e = y.located.table.places-are in
    let f = few-places _ _ _ _ y.located.table in
    record { taken = asks-taken y; room = omega arith }

pub fit-requires : goal.fit-requires
fit-requires c = let f = few-places _ _ _ _ c.requires.ready.located.table in search rules

pub returns : goal.returns
returns c = all-fitted c.requires.ready _ (c.push_all.ensures _ c.fill_columns.ensures) c.units.ensures (omega arith) (omega arith) c.fit.ensures
