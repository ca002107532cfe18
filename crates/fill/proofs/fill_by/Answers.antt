-- `fill_by` meets its contract.
use Prim.Native.Nat.{◌*◌}
use native.Mathlib.Omega.{arith}
use Rattle.fill.specs.Fill.{extras}
use Rattle.fill.proofs.Beginning.{entries-low}
use Rattle.fill.proofs.Going.{finish, rest-holds}
use Rattle.fill.proofs.Whole.{begins, columns-passed, columns-failed}
use Rattle.fill.proofs.fill_by.Goals as goal

pub overflow_mul-e : goal.overflow_mul-e
overflow_mul-e c =
    let a = c.args in
    let p = c.requires in
    let low = entries-low a.ones a.k p.8 p.5 in
    omega arith

pub start_order-requires : goal.start_order-requires
start_order-requires c =
    let a = c.args in
    let p = c.requires in
    let low = entries-low a.ones a.k p.8 p.5 in
    let l = p.2 in
    (omega arith, p.6, p.7)

pub columns-requires : goal.columns-requires
columns-requires c =
    let a = c.args in
    let so = c.start_order in
    let given = c.requires in
    record { state = _; holds = begins a.w.now a.u.now a.k a.m a.ones a.seed a.draws given so.new.u so.ensures }

pub returns-then-not-columns : goal.returns-then-not-columns
returns-then-not-columns c =
    let a = c.args in
    let given = c.requires in
    let so = c.start_order in
    let co = c.columns in
    let t = c.if-not-columns.true in
    columns-failed a.w.now a.u.now a.k a.m a.ones a.seed a.draws given
    so.new.u so.ensures _ co.result co.ensures t _

pub extras-requires : goal.extras-requires
extras-requires c =
    let a = c.args in
    let given = c.requires in
    let so = c.start_order in
    let co = c.columns in
    let t = c.if-not-columns.false in
    let r = columns-passed a.w.now a.u.now a.k a.m a.ones a.seed a.draws given
    so.new.u so.ensures _ co.result co.ensures t in
    record { e = a.ones * a.k; state = r.state; rep = r.holds.rep }

pub returns : goal.returns
returns c =
    let a = c.args in
    let given = c.requires in
    let so = c.start_order in
    let co = c.columns in
    let ex = c.extras in
    let t = c.if-not-columns.false in
    let r = columns-passed a.w.now a.u.now a.k a.m a.ones a.seed a.draws given
    so.new.u so.ensures _ co.result co.ensures t in
    finish _ (extras a.k 0 a.m) _ _ ex.result (ex.ensures (a.ones * a.k)) (rest-holds _ _ _ _ (λ x q. q.rep) r)
