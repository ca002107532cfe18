-- `all_zero` meets its contract.
use mathlib.Core.Path.{◌≡◌, refl, sym, ap, ◌∙◌}
use mathlib.Core.Bool.{Bool}
use Prim.Native.Nat.{ℕ}
use native.Mathlib.Omega.{arith}
use borrow.Author.Tests.{eq-eqb, ne_eqb}
use lib.Dec.{eqb}
use lib.ListN.{take}
use Rattle.lists.specs.Lists.{all_pass}
use Rattle.walks.specs.WalksLaws.{step-next, step_value, pass-fails, pass-next}
use Rattle.walks.proofs.all_zero.Goals as goal

abbrev is_zero : ℕ → Bool
is_zero x = eqb x 0

pub loop-i-init : goal.loop-i-init
loop-i-init c = λ l e h. (e, refl)

pub returns-then-spot-ne0 : goal.returns-then-spot-ne0
returns-then-spot-ne0 c = let s = c.loop-i in let a = c.args in λ l e h. let v = s.invariant l e h in
    sym (pass-fails is_zero l a.count s.i _ h (omega arith) (step_value l s.i c.read-spot.ensures v.0 (omega arith)) (ne_eqb _ 0 c.if-spot-ne0.true))

pub loop-i-preserved : goal.loop-i-preserved
loop-i-preserved c = let s = c.loop-i in
    λ l e h. let v = s.invariant l e h in let x = step_value l s.i c.read-spot.ensures v.0 (omega arith) in
    (step-next l s.i c.read-spot.ensures v.0 (omega arith), pass-next is_zero l s.i _ (omega arith) x v.1 (eq-eqb _ 0 c.if-spot-ne0.false))

pub returns : goal.returns
returns c = let s = c.loop-i in let z : s.i ≡ c.args.count = omega arith in λ l e h. sym (s.invariant l e h).1 ∙ ap (λ k. all_pass is_zero (take k l)) z
