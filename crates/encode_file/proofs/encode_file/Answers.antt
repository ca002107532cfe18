-- `encode_file::encode_file` is safe: the planner's own plan is well-formed, and its table has a size.
use mathlib.Core.Path.{refl}
use lib.ListN.{replicate}
use Rattle.table.specs.Accepted.{words}
use Rattle.own_plan.specs.Own.{own-plan}
use Rattle.encode_file.proofs.encode_file.Goals as goal

pub size_for-requires : goal.size_for-requires
size_for-requires g c = words c.args.table.now _ refl (own-plan c.args.table.now (replicate 15360 0) c.in-Ok.planned c.in-Ok.ensures.answer _ c.in-Ok.ensures.plan).accepted

pub slice_bounds-plan-end : goal.slice_bounds-plan-end
slice_bounds-plan-end g c = (own-plan c.args.table.now (replicate 15360 0) c.in-Ok.planned c.in-Ok.ensures.answer _ c.in-Ok.ensures.plan).within

pub invariant_of-plan : goal.invariant_of-plan
invariant_of-plan g c = record {
  formed = (own-plan c.args.table.now (replicate 15360 0) c.in-Ok.planned c.in-Ok.ensures.answer _ c.in-Ok.ensures.plan).formed;
}
