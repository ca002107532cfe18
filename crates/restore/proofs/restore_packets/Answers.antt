-- `restore::restore_packets` meets its contract.
use Prim.Native.Nat.{◌-◌}
use mathlib.Core.Path.{refl, ap₂}
use native.Mathlib.Omega.{arith}
use Rattle.table.specs.Accepted.{few-places}
use Rattle.restore.proofs.Settling.{fewer, settled, unsettled}
use Rattle.restore.specs.SavedLaws.{put_back}
use Rattle.restore.proofs.restore_packets.Goals as goal

pub overflow_sub-result : goal.overflow_sub-result
overflow_sub-result c =
    let a = c.args in
    let p = c.requires in
    omega (arith, c.tally_of-before.ensures, c.tally_of-lost.ensures, fewer _ _ _ _ a.table.now.accepted a.block.now a.map.now p.0 p.1 _ c.zero_lost.ensures _ _ _ c.restore_lost-done.ensures.0)

pub returns-in-Some : goal.returns-in-Some
returns-in-Some c =
    let p = c.requires in
    let a = c.args in
    let k = a.table.now.accepted in
    let back = put_back _ a.map.now _ _ _ a.table.now.places (few-places _ _ _ _ k) p.1 (omega (arith, p.1)) c.copy.ensures c.copy-in-Some.ensures in
    unsettled _ _ _ _ k a.block.now a.map.now p.0 p.1 _ c.zero_lost.ensures _ _ _ c.restore_lost-done.ensures.0 _ c.restore_lost-done.ensures.1 _ c.in-Some.is _ _ back c.zero_lost-in-Some.ensures

pub returns : goal.returns
returns c =
    let p = c.requires in
    let a = c.args in
    settled _ _ _ _ a.table.now.accepted a.block.now a.map.now p.0 p.1 _ c.zero_lost.ensures _ _ _ c.restore_lost-done.ensures.0 _ c.restore_lost-done.ensures.1 c.in_default.is _
    (ap₂ ◌-◌ c.tally_of-before.ensures c.tally_of-lost.ensures) c.tally_of-lost.ensures refl
