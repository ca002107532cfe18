-- `settle::settle_all` meets its contract: `Settles` holds at each turn.
use Prim.Native.Nat.{◌-◌}
use mathlib.Core.Path.{◌≡◌}
use native.Mathlib.Omega.{arith}
use Rattle.settle.proofs.Settling.{start, passed_over, settled, all_settled}
use Rattle.settle.proofs.settle_all.Goals as goal

pub loop-p-init : goal.loop-p-init
loop-p-init c = start _ _ _ _ _ _ c.requires.rows c.requires.room.0 c.requires.room.1

pub settle-requires : goal.settle-requires
settle-requires c =
    let l = c.loop-p in
    let few = l.invariant.led.few in
    record { rows = (l.invariant.led, omega (arith, c.if-owner-p-ne0.true)); room = (omega arith, l.invariant.bytes, l.invariant.marks, omega arith) }

pub loop-p-preserved-then-owner-p-ne0 : goal.loop-p-preserved-then-owner-p-ne0
loop-p-preserved-then-owner-p-ne0 c =
    let l = c.loop-p in
    settled l.invariant (l.p - 1) (omega arith) (omega arith) (omega (arith, c.if-owner-p-ne0.true)) c.settle.ensures

pub loop-p-preserved : goal.loop-p-preserved
loop-p-preserved c =
    let l = c.loop-p in
    passed_over l.invariant (l.p - 1) (omega arith) (omega arith) (omega (arith, c.if-owner-p-ne0.false))

pub returns : goal.returns
returns c =
    let l = c.loop-p in
    let e : l.p ≡ 0 = omega arith in
    all_settled (rw e at l.invariant)
