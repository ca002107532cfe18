-- `bad_places` meets its contract.
use Rattle.table.proofs.Looking.{places-bad}
use Rattle.table.proofs.bad_places.Goals as goal

pub all_rise-requires : goal.all_rise-requires
all_rise-requires c = let e = c.from-m.ensures in rw e c.requires

pub returns : goal.returns
returns c = places-bad c.args.t.now _ _ _ c.from-m.ensures c.from-n.ensures c.all_rise.ensures
