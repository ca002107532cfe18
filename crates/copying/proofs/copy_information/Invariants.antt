-- `copying::copy_information` meets its contract: what is left to copy decides the block.
use Rattle.std.proofs.Common.{◌≡◌, ◌-◌, ◌≤◌, length, drop}
use Rattle.table.specs.Packets.{packets}
use Rattle.plan.specs.Layout.{plan_places, info_count, info_in}
use Rattle.plan.specs.Steps.{with_packets}
use Rattle.copying.proofs.copy_information.Given as goal

abbrev pub invariant-loop-k : goal.invariant-loop-k
invariant-loop-k l = record {
  upto : l.k ≤ length l.info;
  left : with_packets (packets l.s (plan_places l.plan.words.now) l.initial.block) (info_in l.plan.words.now) (packets l.s (info_count l.plan.words.now) l.information)
      ≡ with_packets (packets l.s (plan_places l.plan.words.now) l.block) (drop l.k (info_in l.plan.words.now)) (drop l.k (packets l.s (info_count l.plan.words.now) l.information));
}

abbrev pub decreases-loop-k : goal.decreases-loop-k
decreases-loop-k l = length l.info - l.k
