-- `start_order` meets its contract: the first h entries are written.
use Prim.Native.Nat.{◌%◌}
use mathlib.Core.Path.{refl}
use native.Mathlib.Omega.{arith}
use Rattle.lots.proofs.Order.{order-start, order-turn}
use Rattle.lots.proofs.start_order.Goals as goal

pub loop-h-init : goal.loop-h-init
loop-h-init c = order-start (λ h. h % c.args.m) c.args.u.now

pub loop-h-preserved : goal.loop-h-preserved
loop-h-preserved c =
    let a = c.args in
    let s = c.loop-h in
    order-turn (λ h. h % a.m) a.u.now s.h (s.h % a.m) s.u (omega arith) refl s.invariant
