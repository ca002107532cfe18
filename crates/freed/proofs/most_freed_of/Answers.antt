-- `freed::most_freed_of` meets its contract: the rest of the scan decides.
use Rattle.std.proofs.Common.{◌≡◌, ◌-◌, sym, ap, ◌∙◌, arith}
use Rattle.table.specs.Accepted.{each-places}
use Rattle.table.specs.Checks.{check}
use Rattle.table.specs.SumLaws.{places-low}
use Rattle.freed.specs.Most.{most_from}
use Rattle.freed.proofs.Most.{lives-hit, lives-miss, lives-end, most-up, most-keep}
use Rattle.freed.proofs.most_freed_of.Goals as goal
use Rattle.freed.proofs.most_freed_of.Goals.{then-live-i-eq1+then-w-k, then-live-i-eq1+else-w-k, else-live-i-eq1}

pub loop-i-init : goal.loop-i-init
loop-i-init c = let m = c.args.located.now.table.checks in let e : m - 0 ≡ m = omega arith in rw e

pub freed_in-k-requires : goal.freed_in-k-requires
unfolding check
freed_in-k-requires c =
    let l = c.args.located.now in
    rw (c.check.ensures, c.requires.places) (places-low (each-places l.table.words.now _ _ _ l.table.accepted _ c.loop-i-test.true))

pub loop-i-preserved : goal.loop-i-preserved
loop-i-preserved c =
    let s = c.loop-i in
    let h = c.loop-i-test.true in
    elim c.if-live-i-eq1.branch [
      | then-live-i-eq1+then-w-k u ↦ (let k = rw u.check.ensures at u.freed_in-k.ensures.freed in
          s.invariant ∙ ap (most_from _ _ _) (lives-hit _ s.i _ h u.if-live-i-eq1.true) ∙ rw (u.best-is, u.w-is, k) (most-up _ _ s.w s.i _ (omega (arith, u.if-w-k.true, k))))
      | then-live-i-eq1+else-w-k u ↦ (let k = rw u.check.ensures at u.freed_in-k.ensures.freed in
          s.invariant ∙ ap (most_from _ _ _) (lives-hit _ s.i _ h u.if-live-i-eq1.true) ∙ rw (u.best-is, u.w-is) (most-keep _ _ s.w s.i _ (omega (arith, u.if-w-k.false, k))))
      | else-live-i-eq1 u ↦ s.invariant ∙ ap (most_from _ _ _) (lives-miss _ s.i _ h u.if-live-i-eq1.false) ∙ rw (u.best-is, u.w-is)
    ]

pub returns : goal.returns
returns c =
    let s = c.loop-i in
    let e : s.i ≡ c.args.located.now.table.checks = omega arith in
    sym ((rw e at s.invariant) ∙ lives-end _ _ _ _ _)
