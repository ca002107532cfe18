-- `make_table` meets its contract: the rows are zeros.
use mathlib.Core.Path.{refl}
use Rattle.lists.specs.ListLaws.{get_d-zeros}
use Rattle.staircase.proofs.make_table.Goals as goal

pub make_in-requires : goal.make_in-requires
make_in-requires c = record { rows = (refl, get_d-zeros 8192); parameters = c.requires.parameters; limits = c.requires.limits; room = c.requires.room }
