-- `packets::copy` meets its contract: the part of src is written.
use native.Mathlib.Nat.{add-sub_cancel_left}
use Rattle.packets.proofs.copy.Goals as goal

pub returns : goal.returns
returns c = let e = add-sub_cancel_left c.args.from c.args.s in rw e at c.store.ensures
