-- `rows::reduce` meets its contract: `Lowering` holds at each turn.
use Prim.Native.Nat.{◌+◌, ◌-◌}
use mathlib.Core.Path.{◌≡◌}
use native.Mathlib.Nat.{pos_of_ne-zero}
use native.Mathlib.Omega.{arith}
use lib.ListN.{get_or}
use Rattle.gf2.specs.EchelonLaws.{ended-zero}
use Rattle.rows.proofs.Lowering.{lower-start, own_bits, next-short, next-less, lower-turn, stopped, lowered, told}
use Rattle.rows.proofs.reduce.Goals as goal

pub loop-lead-init : goal.loop-lead-init
loop-lead-init c = lower-start _ _ _ _ _ _ c.requires.rows.short c.highest-lead.ensures

pub add_low-requires : goal.add_low-requires
add_low-requires c =
    let r = c.requires.rows in
    let s = rw c.in-Some.is at c.loop-lead.invariant in
    let len = s.put.len in
    let m = s.most in
    let few = r.most in
    let inside = r.inside in
    let e = c.from-o.ensures in
    let z = pos_of_ne-zero c.if-o-eq0.false in
    let f = r.owners.room c.in-Some.p in
    (omega arith, omega arith, omega arith, rw e (own_bits c.in-Some.p r.owners s (omega arith)).most)

pub highest-lead-requires-in-Some : goal.highest-lead-requires-in-Some
highest-lead-requires-in-Some c =
    let r = c.requires.rows in
    let s = rw c.in-Some.is at c.loop-lead.invariant in
    let len = s.put.len in
    let put = c.add_low.ensures.len in
    let m = s.most in
    let few = r.most in
    let inside = r.inside in
    let e = c.from-o.ensures in
    let z = pos_of_ne-zero c.if-o-eq0.false in
    (omega arith, omega arith, next-short c.in-Some.p r.owners s (omega arith) (rw e at c.add_low.ensures))

pub loop-lead-smaller : goal.loop-lead-smaller
loop-lead-smaller c =
    let e = c.from-o.ensures in
    let z = pos_of_ne-zero c.if-o-eq0.false in
    rw c.in-Some.is (next-less c.in-Some.p c.requires.rows.owners (rw c.in-Some.is at c.loop-lead.invariant) (omega arith) (rw e at c.add_low.ensures) c.highest-lead-in-Some.ensures)

pub loop-lead-preserved : goal.loop-lead-preserved
loop-lead-preserved c =
    let e = c.from-o.ensures in
    let z = pos_of_ne-zero c.if-o-eq0.false in
    lower-turn c.in-Some.p c.requires.rows.owners (rw c.in-Some.is at c.loop-lead.invariant) c.requires.room (omega arith) (rw e at c.add_low.ensures) c.highest-lead-in-Some.ensures

pub returns-then-o-eq0 : goal.returns-then-o-eq0
returns-then-o-eq0 c =
    let s = rw c.in-Some.is at c.loop-lead.invariant in
    let w = c.from-o.ensures in
    let i : c.in-Some.p + 1 - 1 ≡ c.in-Some.p = omega arith in
    let free : get_or c.args.owner.now c.in-Some.p 0 ≡ 0 = omega (arith, c.if-o-eq0.true) in
    let end = stopped c.in-Some.p c.requires.rows.owners s free in
    record { row = lowered s end (λ _. rw i free); path = told s end }

pub returns-in_default : goal.returns-in_default
returns-in_default c =
    let s = rw c.in_default.is at c.loop-lead.invariant in
    record { row = rw c.in_default.is (lowered s (ended-zero _ _) (λ h. absurd (omega arith))); path = told s (ended-zero _ _) }
