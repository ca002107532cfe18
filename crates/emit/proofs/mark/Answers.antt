-- `emit::mark` meets its contract: the places, one after the other.
use mathlib.Core.Path.{◌≡◌, refl, sym, ◌∙◌}
use native.Mathlib.Omega.{arith}
use lib.ListN.{length, get_or, take, length-set}
use lib.Seq.{get_or-take, length-take-le}
use Rattle.emit.proofs.Marking.{marking-next, marking-done}
use Rattle.emit.proofs.mark.Goals as goal

pub loop-i-init : goal.loop-i-init
loop-i-init c = (refl, refl)

pub loop-i-preserved : goal.loop-i-preserved
loop-i-preserved c =
    let a = c.args in
    let s = c.loop-i in
    let P = take a.count a.places.now in
    let long : length P ≡ a.count = length-take-le a.count a.places.now c.requires.room in
    let q : c.from-p.result ≡ get_or P s.i 0 = c.from-p.ensures ∙ sym (get_or-take a.count a.places.now s.i 0 (omega arith)) in
    (simp length-set s.invariant.0, s.invariant.1 ∙ marking-next s.marks P s.i c.from-p.result (omega arith) q)

pub returns : goal.returns
returns c =
    let a = c.args in
    let s = c.loop-i in
    let P = take a.count a.places.now in
    let long : length P ≡ a.count = length-take-le a.count a.places.now c.requires.room in
    sym (s.invariant.1 ∙ marking-done s.marks P s.i (omega arith))
