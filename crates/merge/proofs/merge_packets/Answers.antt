-- `merge::merge_packets` meets its contract.
use mathlib.Core.Path.{refl}
use Rattle.std.proofs.lemmas.Result.{err_from_is_err_and}
use Rattle.erasure.specs.Offered.{held}
use Rattle.merge.proofs.Answering.{answer-merged, answer-contradicted, block-third, marks-third, kinds-all, counted}
use Rattle.merge.proofs.merge_packets.Goals as goal

pub returns-in_err-repaired : goal.returns-in_err-repaired
returns-in_err-repaired c =
    let a = c.args in
    let one = held a.block1.now a.map1.now in
    let two = held a.block2.now a.map2.now in
    let out = held a.block3.now a.map3.now in
    let t = a.table.now.words.now in
    let k = a.table.now.accepted in
    let h = c.hear_all.ensures in
    let block = block-third _ _ _ _ k one two _ h.block in
    let marks = marks-third _ _ _ _ k one two _ _ h.kinds c.mark_lost.ensures in
    let p = err_from_is_err_and c.from_residual.result c.from_residual.ensures.1 in
    rw (p.1, p.2) (answer-contradicted t one two out c.requires _ _ _ _ _ block marks c.in_err-repaired.ensures refl _ refl refl)

pub returns : goal.returns
returns c =
    let a = c.args in
    let one = held a.block1.now a.map1.now in
    let two = held a.block2.now a.map2.now in
    let out = held a.block3.now a.map3.now in
    let t = a.table.now.words.now in
    let k = a.table.now.accepted in
    let h = c.hear_all.ensures in
    let block = block-third _ _ _ _ k one two _ h.block in
    let marks = marks-third _ _ _ _ k one two _ _ h.kinds c.mark_lost.ensures in
    answer-merged t one two out c.requires _ _ _ _ _ block marks c.in_ok-repaired.ensures refl _
    (counted _ _ (kinds-all _ _ _ _ k one two _ h.kinds) _ _ _ _ _ _ _ c.tally_of-agreed.ensures c.tally_of-single.ensures c.tally_of-silent.ensures c.tally_of-clash.ensures) refl
