-- `first_one` meets its contract.
use mathlib.Core.Path.{sym, ◌∙◌}
use native.Mathlib.Omega.{arith}
use Rattle.fill.proofs.RowOnes.{none_free, first-put, first-keep}
use Rattle.fill.proofs.first_one.Goals as goal

pub ones_of-requires : goal.ones_of-requires
ones_of-requires c =
    let p = c.requires in
    let h = p.rep.sizes.m-low in
    let r = p.row in
    let l = p.rep.wide in
    omega arith

pub extra_any-requires : goal.extra_any-requires
extra_any-requires c =
    let p = c.requires in
    let z = p.rep.sizes in
    let h = z.m-low in
    let r = p.row in
    let a = c.args in
    let y = sym c.ones_of.ensures.0 ∙ c.if-ones_of-eq0.true in
    let fr = none_free a.k p.m p.e a.w.now a.draws.now.raw a.draws.now.left p.state p.rep a.i r y in
    (z.k-some, z.k-low, omega arith, p.rep.wide, fr)

pub returns-then-ones_of-eq0 : goal.returns-then-ones_of-eq0
returns-then-ones_of-eq0 c =
    let a = c.args in
    let d = c.extra_any in
    let q = d.ensures in
    let z = sym c.ones_of.ensures.0 ∙ c.if-ones_of-eq0.true in
    λ m e h s rep. rw c.is_some.ensures (first-put a.k m e a.w.now a.draws.now.raw a.draws.now.left s rep a.i h z _ _ _ _ q.0 q.1)

pub returns : goal.returns
returns c =
    let a = c.args in
    λ m e h s rep. first-keep a.k m e a.w.now a.draws.now.raw a.draws.now.left s rep a.i h (λ z. c.if-ones_of-eq0.false (c.ones_of.ensures.0 ∙ z))
