-- `copying::copy_information` meets its contract: what is left to copy decides the block.
use Rattle.std.proofs.Common.{sym, ap, ◌∙◌, ℕ, ◌≤◌, ◌<◌, List, get_or, length, drop, arith}
use lib.ListN.{drop_of_length-le}
use Rattle.table.specs.BufferLaws.{place-fits}
use Rattle.table.specs.PacketLaws.{packets-joined}
use Rattle.table.specs.Packets.{packets, joined}
use Rattle.plan.specs.Layout.{plan_places, info_count, info_in}
use Rattle.plan.specs.LayoutLaws.{well, info-below, info-length}
use Rattle.plan.specs.Steps.{with_packets}
use Rattle.start.specs.RunBytes.{run-bytes}
use Rattle.copying.proofs.CopyLaws.{run_room, run-copied, others-kept}
use Rattle.copying.proofs.copy_information.Goals as goal

pub overflow_mul-info : goal.overflow_mul-info
overflow_mul-info c =
    let a = c.args in let w = a.plan.now.words.now in let f = well w a.plan.now.formed in let e = c.info-info.ensures in
    let few : c.loop-k.k < info_count w = omega (arith, rw e at c.loop-k-test.true, info-length w f) in
    let g = place-fits (get_or (info_in w) c.loop-k.k 0) (plan_places w) a.s (info-below w f c.loop-k.k few) in
    rw e (omega (arith, c.requires.block))

pub overflow_mul-k : goal.overflow_mul-k
overflow_mul-k c =
    let a = c.args in let w = a.plan.now.words.now in let e = c.info-info.ensures in
    let few : c.loop-k.k < info_count w = omega (arith, rw e at c.loop-k-test.true, info-length w (well w a.plan.now.formed)) in
    omega (arith, place-fits c.loop-k.k (info_count w) a.s few, c.requires.information)

pub overflow_mul-r : goal.overflow_mul-r
overflow_mul-r c =
    let a = c.args in let w = a.plan.now.words.now in let t = rw (c.info-info.ensures, info-length w (well w a.plan.now.formed)) at c.together-r.ensures in let some = t.some in
    omega (arith, run-bytes c.loop-k.k c.together-r.result (info_count w) a.s (omega arith) t.upto, c.requires.information)

pub copy-requires : goal.copy-requires
copy-requires c =
    let a = c.args in let p = c.requires in let w = a.plan.now.words.now in let f = well w a.plan.now.formed in let l = c.loop-k in let k = l.k in let r = c.together-r.result in
    let t = rw (c.info-info.ensures, info-length w f) at c.together-r.ensures in let some = t.some in
    let to = run_room a.s (plan_places w) (info_count w) l.block a.information.now (l.auto.block ∙ p.block) p.information (info_in w) (info-length w f) (info-below w f) k r t in
    (rw c.info-info.ensures (omega (arith, to, l.auto.block, p.block)), omega (arith, run-bytes k r (info_count w) a.s (omega arith) t.upto, p.information))

pub loop-k-preserved : goal.loop-k-preserved
loop-k-preserved c =
    let a = c.args in let p = c.requires in let w = a.plan.now.words.now in let s = a.s in let f = well w a.plan.now.formed in let l = c.loop-k in let info = a.information.now in
    let r = c.together-r.result in let t = rw (c.info-info.ensures, info-length w f) at c.together-r.ensures in record {
      upto = c.together-r.ensures.upto;
      left = l.invariant.left ∙ run-copied s (plan_places w) (info_count w) l.block info (l.auto.block ∙ p.block) p.information (info_in w) (info-length w f) (info-below w f) l.k r t
          ∙ ap (λ (b : List ℕ). with_packets (packets s (plan_places w) b) (drop r (info_in w)) (drop r (packets s (info_count w) info)))
          (sym (rw c.info-info.ensures at c.copy.ensures));
    }

pub returns : goal.returns
returns c =
    let a = c.args in let p = c.requires in let w = a.plan.now.words.now in let s = a.s in let l = c.loop-k in let I = info_in w in
    let past : length I ≤ l.k = rw c.info-info.ensures at c.loop-k-test.false in
    let same = sym (ap joined (l.invariant.left ∙ ap (λ (is : List ℕ). with_packets (packets s (plan_places w) l.block) is (drop l.k (packets s (info_count w) a.information.now))) (drop_of_length-le I past))
    ∙ packets-joined s (plan_places w) l.block (l.auto.block ∙ p.block)) in
    record { copied = same; others = rw same (others-kept w s a.block.now p.block a.information.now p.information) }
