-- `second_one` meets its contract.
use mathlib.Core.Path.{sym, ◌∙◌}
use native.Mathlib.Omega.{arith}
use Rattle.fill.proofs.RowOnes.{second-put, second-keep}
use Rattle.fill.proofs.second_one.Goals as goal

pub ones_of-requires : goal.ones_of-requires
ones_of-requires c =
    let p = c.requires in
    let h = p.rep.sizes.m-low in
    let r = p.row in
    let l = p.rep.wide in
    omega arith

pub extra_free-requires : goal.extra_free-requires
extra_free-requires c =
    let p = c.requires in
    let z = p.rep.sizes in
    let h = z.m-low in
    let r = p.row in
    (z.k-some, z.k-low, omega arith, p.rep.wide)

pub returns-then-ones_of-eq1 : goal.returns-then-ones_of-eq1
returns-then-ones_of-eq1 c =
    let a = c.args in
    let d = c.extra_free in
    let q = d.ensures in
    let z = sym c.ones_of.ensures.0 ∙ c.if-ones_of-eq1.true in
    λ m e h s rep. rw c.is_some.ensures (second-put a.k m e a.w.now a.draws.now.raw a.draws.now.left s rep a.i h z _ _ _ _ q.0 q.1)

pub returns : goal.returns
returns c =
    let a = c.args in
    λ m e h s rep. second-keep a.k m e a.w.now a.draws.now.raw a.draws.now.left s rep a.i h (λ z. c.if-ones_of-eq1.false (c.ones_of.ensures.0 ∙ z))
