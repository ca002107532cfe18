-- `make_in` meets its contract: after the fill, no draws left, checks too heavy, or the table.
use mathlib.Core.List.{[]}
use Prim.Native.Nat.{◌-◌}
use native.Mathlib.Omega.{arith}
use Rattle.making.specs.FitsLaws.{inside}
use Rattle.staircase.specs.Parameters.{fine}
use Rattle.staircase.proofs.Afterwards.{low, spent, wide, heavy, ones-are, short, made}
use Rattle.staircase.proofs.make_in.Goals as goal

pub overflow_sub-m : goal.overflow_sub-m
overflow_sub-m c =
    let a = c.args in
    let good = c.requires.parameters in
    let l = (fine a.k a.n a.ones a.seed good).above in
    omega arith

pub fill-requires : goal.fill-requires
fill-requires c =
    let a = c.args in
    let good = c.requires.parameters in
    let far = c.requires.limits in
    let p = fine a.k a.n a.ones a.seed good in
    let l = p.above in
    let m = low a.k a.n a.ones a.seed a.s good far in
    let q = m.places in
    (c.requires.rows.0, c.requires.rows.1, p.some-sources, omega arith, omega arith, m.rows, p.few, p.seed-low)

pub returns-then-not-fill : goal.returns-then-not-fill
returns-then-not-fill c =
    let a = c.args in
    let good = c.requires.parameters in
    let far = c.requires.limits in
    let long = c.requires.room in
    let f = c.fill in
    let x = spent a.k a.n a.ones a.seed a.s a.table.now f.new.w [] good far long f.result f.ensures c.if-not-fill.true in
    record { answer = x.answer; table = x.table }

pub put_stairs-requires : goal.put_stairs-requires
put_stairs-requires c =
    let a = c.args in
    let good = c.requires.parameters in
    let far = c.requires.limits in
    let long = c.requires.room in
    let f = c.fill in
    let m = low a.k a.n a.ones a.seed a.s good far in
    let r = m.rows in
    let l = wide a.k a.n a.ones a.seed a.s a.table.now f.new.w [] good far long f.result f.ensures c.if-not-fill.false in
    (omega arith, m.places)

pub weigh-requires : goal.weigh-requires
weigh-requires c =
    let a = c.args in
    let good = c.requires.parameters in
    let far = c.requires.limits in
    let long = c.requires.room in
    let f = c.fill in
    let m = low a.k a.n a.ones a.seed a.s good far in
    let r = m.rows in
    let l = wide a.k a.n a.ones a.seed a.s a.table.now f.new.w [] good far long f.result f.ensures c.if-not-fill.false in
    let e = c.put_stairs.ensures.len in
    (m.rows, omega arith)

pub returns-in_default : goal.returns-in_default
returns-in_default c =
    let a = c.args in
    let good = c.requires.parameters in
    let far = c.requires.limits in
    let long = c.requires.room in
    let f = c.fill in
    let st = c.put_stairs in
    let x = heavy a.k a.n a.ones a.seed a.s a.table.now f.new.w st.new.w good far long f.result f.ensures
    c.if-not-fill.false st.ensures 65536 c.in_default.ensures (omega arith) in
    record { answer = x.answer; table = x.table }

pub returns-then-total-gt-MOST_ONES : goal.returns-then-total-gt-MOST_ONES
returns-then-total-gt-MOST_ONES c =
    let a = c.args in
    let good = c.requires.parameters in
    let far = c.requires.limits in
    let long = c.requires.room in
    let f = c.fill in
    let st = c.put_stairs in
    let x = heavy a.k a.n a.ones a.seed a.s a.table.now f.new.w st.new.w good far long f.result f.ensures
    c.if-not-fill.false st.ensures c.in-Some.total c.in-Some.ensures c.if-total-gt-MOST_ONES.true in
    record { answer = x.answer; table = x.table }

pub write-length-requires : goal.write-length-requires
write-length-requires c =
    let a = c.args in
    let good = c.requires.parameters in
    let far = c.requires.limits in
    let long = c.requires.room in
    let f = c.fill in
    let st = c.put_stairs in
    let m = low a.k a.n a.ones a.seed a.s good far in
    let r = m.rows in
    let i = inside a.n a.s (a.n - a.k) far in
    let ok = c.if-not-fill.false in
    let l = wide a.k a.n a.ones a.seed a.s a.table.now f.new.w [] good far long f.result f.ensures ok in
    let e = st.ensures.len in
    let t = c.if-total-gt-MOST_ONES.false in
    let o = ones-are a.k a.n a.ones a.seed a.s a.table.now f.new.w st.new.w good far long f.result f.ensures
    ok st.ensures c.in-Some.total c.in-Some.ensures t in
    (o, t, long, i.few-places, i.few_bytes, m.rows, omega arith)

pub overflow_cast-result : goal.overflow_cast-result
overflow_cast-result c =
    let a = c.args in
    let good = c.requires.parameters in
    let far = c.requires.limits in
    let long = c.requires.room in
    let f = c.fill in
    let st = c.put_stairs in
    let l = short a.k a.n a.ones a.seed a.s a.table.now f.new.w st.new.w good far long f.result f.ensures
    c.if-not-fill.false st.ensures c.in-Some.total c.in-Some.ensures c.if-total-gt-MOST_ONES.false c.write-length.ensures in
    omega arith

pub returns : goal.returns
returns c =
    let a = c.args in
    let good = c.requires.parameters in
    let far = c.requires.limits in
    let long = c.requires.room in
    let f = c.fill in
    let st = c.put_stairs in
    let x = made a.k a.n a.ones a.seed a.s a.table.now f.new.w st.new.w good far long f.result f.ensures
    c.if-not-fill.false st.ensures c.in-Some.total c.in-Some.ensures c.if-total-gt-MOST_ONES.false c.write-length.ensures in
    record { answer = x.answer; table = x.table }
