-- `one` meets its contract.
use native.Mathlib.Omega.{arith}
use Rattle.fill.proofs.Turns.{below_end, order-done, row_done}
use Rattle.fill.proofs.one.Goals as goal

pub by_order-drawn-requires : goal.by_order-drawn-requires
by_order-drawn-requires c =
    let a = c.args in
    let p = c.requires in
    let b = p.both in
    let q = c.scan in
    let h = below_end p.k a.m a.e a.w.now a.u.now a.used.now a.draws.now.raw a.draws.now.left p.state b a.j p.col
    q.result q.ensures c.if-scan.true in
    let z = b.rep.sizes.k-low in
    let y = p.col in
    (h, b.rep.sizes.e-low, b.order.long, b.order.small, omega arith, b.rep.wide)

pub returns-then-scan : goal.returns-then-scan
returns-then-scan c =
    let a = c.args in
    let d = c.by_order-drawn in
    let f = d.ensures in
    let q = c.scan in
    let t = c.if-scan.true in
    λ k h s b. rw c.is_some.ensures (order-done k a.m a.e a.w.now a.u.now a.used.now a.draws.now.raw a.draws.now.left s b a.j h
    q.result q.ensures t _ _ _ _ _ f.0 f.1)

pub returns : goal.returns
returns c =
    let a = c.args in
    let d = c.by_row in
    let f = d.ensures in
    let q = c.scan in
    let t = c.if-scan.false in
    λ k h s b. rw c.is_some-2.ensures (row_done k a.m a.e a.w.now a.u.now a.used.now a.draws.now.raw a.draws.now.left s b a.j h
    q.result q.ensures t _ _ _ _ f.0 f.1)
