-- `emit::fit_place` meets its contract: the slots that are left, bit by bit.
use mathlib.Core.Path.{◌≡◌, sym, ap, ◌∙◌}
use mathlib.Core.List.{map, [], ◌∷◌}
use Prim.Native.Nat.{◌+◌, ◌≤◌}
use native.Mathlib.Omega.{arith}
use lib.ListN.{length-map, length, set, length-set}
use Rattle.plan.specs.declared.Step.TheVariants.{Clear, Add}
use Rattle.plan.specs.Step.{pack}
use Rattle.rule.specs.Buffers.{mask_bits}
use Rattle.rule.specs.Rule.{slots_named}
use Rattle.lists.specs.WroteLaws.{left-all, left_is, left_one, left-room, left-length, left-done, wrote_one, wrote-append, wrote-is}
use Rattle.emit.proofs.Slots.{named, named-all, named_none, named_in, named-out}
use Rattle.emit.proofs.fit_place.Goals as goal
use Rattle.emit.proofs.fit_place.Goals.{then-row-i-eq1, else-row-i-eq1}

pub loop-i-init : goal.loop-i-init
loop-i-init c = left-all _ _ _

pub bounds-plan-k : goal.bounds-plan-k
bounds-plan-k c =
    let a = c.args in
    let s = c.loop-i in
    let all = ap length (named-all a.to a.n a.g a.row) in
    let long = length-map (map (Add a.to) (slots_named a.n (mask_bits a.g a.row))) pack in
    let room : a.at + 1 + length (named a.to a.n a.g a.row 0) ≤ length (set a.plan.now a.at c.pack.result) = simp length-set (omega arith) in
    let r = left-room room (left_is _ s.invariant (named_in a.to a.n a.g a.row s.i c.loop-i-test.true c.if-row-i-eq1.true)) in
    let l = left-length room s.invariant in
    omega arith

pub loop-i-preserved : goal.loop-i-preserved
loop-i-preserved c =
    let a = c.args in
    let s = c.loop-i in
    let all = ap length (named-all a.to a.n a.g a.row) in
    let long = length-map (map (Add a.to) (slots_named a.n (mask_bits a.g a.row))) pack in
    let room : a.at + 1 + length (named a.to a.n a.g a.row 0) ≤ length (set a.plan.now a.at c.pack.result) = simp length-set (omega arith) in
    let l = s.invariant in
    let h = c.loop-i-test.true in
    elim c.if-row-i-eq1.branch [
      | then-row-i-eq1 u ↦ (rw (u.plan-is, u.k-is, u.pack-then-row-i-eq1.ensures) (left_one room (left_is _ l (named_in a.to a.n a.g a.row s.i h u.if-row-i-eq1.true))))
      | else-row-i-eq1 u ↦ (rw (u.plan-is, u.k-is) (left_is _ l (named-out a.to a.n a.g a.row s.i h u.if-row-i-eq1.false)))
    ]

pub returns : goal.returns
returns c =
    let a = c.args in
    let s = c.loop-i in
    let all = ap length (named-all a.to a.n a.g a.row) in
    let long = length-map (map (Add a.to) (slots_named a.n (mask_bits a.g a.row))) pack in
    let room : a.at + 1 + length (named a.to a.n a.g a.row 0) ≤ length (set a.plan.now a.at c.pack.result) = simp length-set (omega arith) in
    let e : s.i ≡ a.g = omega arith in
    let one = wrote_one a.plan.now a.at c.pack.result (omega arith) in
    let w = left-done (left_is [] s.invariant (ap (named a.to a.n a.g a.row) e ∙ named_none a.to a.n a.g a.row)) in
    let is : pack (Clear a.to) ∷ named a.to a.n a.g a.row 0 ≡ pack (Clear a.to) ∷ map pack (map (Add a.to) (slots_named a.n (mask_bits a.g a.row))) = ap (λ l. pack (Clear a.to) ∷ l) (sym (named-all a.to a.n a.g a.row)) in
    wrote-is (rw c.pack.ensures at (wrote-append (omega arith) one w)) is
