-- `turns::restore_one` meets its contract.
use Rattle.turns.proofs.Turning.{lost-place-in}
use mathlib.Core.Path.{◌∙◌}
use native.Mathlib.Omega.{arith}
use Rattle.turns.proofs.restore_one.Goals as goal

pub first_lost-p-requires : goal.first_lost-p-requires
first_lost-p-requires c = rw c.requires.map c.requires.given.below

pub restore-requires : goal.restore-requires
restore-requires c = (c.requires.given, lost-place-in c.args.map.now c.args.places.now _ _ c.requires.map c.requires.one c.first_lost-p.ensures)

pub bounds-map-p : goal.bounds-map-p
bounds-map-p c = let h = lost-place-in c.args.map.now c.args.places.now _ _ c.requires.map c.requires.one c.first_lost-p.ensures in omega arith

pub returns : goal.returns
returns c = let e = c.first_lost-p.ensures in record { place = e; turn = record { block-is = c.restore.ensures ∙ rw e; map_is = rw e } }
