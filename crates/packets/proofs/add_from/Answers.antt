-- `packets::add_from` meets its contract: the part of src is added.
use native.Mathlib.Nat.{add-sub_cancel_left}
use Rattle.packets.proofs.add_from.Goals as goal

pub returns : goal.returns
returns c = let e = add-sub_cancel_left c.args.from c.args.s in rw e at c.mix.ensures
