-- `columns::fill_columns` meets its contract: the columns are those of the first i set-aside checks.
use Rattle.lists.specs.ListLaws.{all_map}
use Rattle.live.specs.TurnLaws.{check-apart, check-low}
use Rattle.masks.specs.DotLaws.{unit-word}
use Rattle.columns.proofs.Pushing.{fill-turn}
use Prim.Native.Nat.{◌<◌}
use mathlib.Core.Path.{◌≡◌}
use native.Mathlib.Omega.{arith}
use Rattle.columns.proofs.fill_columns.Goals as goal

pub check-requires : goal.check-requires
check-requires c = rw c.from.ensures (c.requires.aside.numbers c.loop-i.i c.loop-i-test.true)

pub spread-requires : goal.spread-requires
spread-requires c =
    let s = c.loop-i in
    let v = c.requires.aside in
    let a = v.located.table in
    let j : c.from.result < c.args.located.now.table.checks = rw c.from.ensures (v.numbers s.i c.loop-i-test.true) in
    let room = c.requires.room in
    rw c.check.ensures (record { places = all_map (λ p h. omega (arith, s.auto.col)) (check-low a _ j); apart = check-apart a _ j })

pub loop-i-preserved : goal.loop-i-preserved
loop-i-preserved c =
    let s = c.loop-i in
    let v = c.requires.aside in
    let less = c.loop-i-test.true in
    let few = v.few in
    let j : c.from.result < c.args.located.now.table.checks = rw c.from.ensures (v.numbers s.i less) in
    fill-turn _ _ _ s.i _ _ _ (rw c.check.ensures (check-apart v.located.table _ j)) c.check.ensures (omega (arith, v.room)) c.from.ensures (unit-word s.i (omega arith)) s.invariant c.spread.ensures

pub returns : goal.returns
returns c =
    let s = c.loop-i in
    let e : s.i ≡ c.args.g = omega arith in
    rw e at s.invariant
