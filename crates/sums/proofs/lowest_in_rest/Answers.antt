-- `sums::lowest_in_rest` meets its contract: what was gathered from zeros is the end of the sum.
use Prim.Native.Nat.{◌-◌}
use native.Mathlib.Omega.{arith}
use lib.ListN.{replicate}
use Rattle.table.specs.GatherLaws.{first-length, back-room, back-length}
use Rattle.sums.proofs.Sums.{rest_of}
use Rattle.sums.proofs.lowest_in_rest.Goals as goal

pub slice_bounds-gather-end : goal.slice_bounds-gather-end
slice_bounds-gather-end c = first-length (c.args.s - c.args.off) (replicate 64 0) (omega arith)

pub gather-requires : goal.gather-requires
gather-requires c = (c.requires.0, omega (arith, first-length (c.args.s - c.args.off) (replicate 64 0) (omega arith)))

pub slice_bounds-acc-end-2 : goal.slice_bounds-acc-end-2
slice_bounds-acc-end-2 c = back-room (c.args.s - c.args.off) (replicate 64 0) (omega arith) c.gather.new.acc c.gather.auto.acc

pub slice_bounds-lowest-end : goal.slice_bounds-lowest-end
slice_bounds-lowest-end c = back-length (c.args.s - c.args.off) (replicate 64 0) (omega arith) c.gather.new.acc c.gather.auto.acc

pub returns : goal.returns
returns c =
    let e = rest_of _ _ _ _ _ c.requires.0 (omega arith) 64 _ (omega arith) c.gather.auto.acc c.gather.ensures in
    rw e at c.lowest.ensures
