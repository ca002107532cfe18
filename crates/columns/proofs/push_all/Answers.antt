-- `columns::push_all` meets its contract: k solved checks are put in.
use Rattle.lists.specs.ListLaws.{all_map}
use Rattle.live.specs.TurnLaws.{check-apart, check-low}
use Rattle.columns.proofs.Pushing.{start, turn}
use Prim.Native.Nat.{◌<◌}
use mathlib.Core.Path.{◌≡◌}
use native.Mathlib.Omega.{arith}
use Rattle.columns.proofs.push_all.Goals as goal

pub loop-k-init : goal.loop-k-init
loop-k-init c = λ E h. start _ _ _ E _ h

pub check-places-requires : goal.check-places-requires
check-places-requires c = rw c.from.ensures (c.requires.taken.checks c.loop-k.k c.loop-k-test.true)

pub push-requires : goal.push-requires
push-requires c =
    let s = c.loop-k in
    let v = c.requires.taken in
    let a = v.located.table in
    let j : c.from.result < c.args.located.now.table.checks = rw c.from.ensures (v.checks s.k c.loop-k-test.true) in
    let room = c.requires.room in
    let own = v.own s.k c.loop-k-test.true in
    rw c.check-places.ensures (record { places = all_map (λ p h. omega (arith, s.auto.col)) (check-low a _ j); apart = check-apart a _ j; own = omega (arith, s.auto.col) })

pub loop-k-preserved : goal.loop-k-preserved
loop-k-preserved c =
    let s = c.loop-k in
    let v = c.requires.taken in
    let j : c.from.result < c.args.located.now.table.checks = rw c.from.ensures (v.checks s.k c.loop-k-test.true) in
    λ E h. turn _ _ _ _ _ _ _ E s.k (rw c.check-places.ensures (check-apart v.located.table _ j)) c.check-places.ensures c.from.ensures c.from-in-loop-k.ensures (s.invariant E h) c.push.ensures

pub returns : goal.returns
returns c =
    let s = c.loop-k in
    let e : s.k ≡ c.args.taken = omega arith in
    rw e at s.invariant
