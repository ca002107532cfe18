-- `chains::link_all` meets its contract.
use Rattle.table.specs.Checks.{check}
use Rattle.chains.specs.Linked.{holders}
use Rattle.chains.proofs.Linking.{links-none, links-more, links-all}
use Rattle.table.specs.Accepted.{places-wide, check-fits}
use mathlib.Core.Path.{refl, ◌∙◌}
use native.Mathlib.Omega.{arith}
use Rattle.chains.proofs.link_all.Goals as goal

pub loop-j-init : goal.loop-j-init
loop-j-init c = (refl, refl, refl, links-none _ _ _ _ _ c.requires.4)

pub link_check-requires : goal.link_check-requires
link_check-requires c =
    let a = c.args in
    let p = c.requires in
    let s = c.loop-j in
    let h = c.loop-j-test.true in
    let e = c.from.ensures ∙ c.args.located.now.starts_at.each s.j h in
    let w = c.from-in-loop-j.ensures in
    let f = check-fits a.located.now.table.words.now a.located.now.table.checks a.located.now.table.places a.located.now.table.size c.args.located.now.table.accepted s.j h _ _ e w in
    (places-wide a.located.now.table.words.now a.located.now.table.checks a.located.now.table.places a.located.now.table.size c.args.located.now.table.accepted s.j h _ _ e w _ (omega (arith, s.invariant.0, p.0)), omega (arith, f, s.invariant.1, p.1), omega (arith, f, s.invariant.2, p.2), omega (arith, s.invariant.1, p.3))

pub loop-j-preserved : goal.loop-j-preserved
loop-j-preserved c =
    let a = c.args in
    let p = c.requires in
    let s = c.loop-j in
    let h = c.loop-j-test.true in
    let e = c.from.ensures ∙ c.args.located.now.starts_at.each s.j h in
    let w = c.from-in-loop-j.ensures in
    let d = c.link_check.ensures in (
      d.0 ∙ s.invariant.0,
      d.1 ∙ s.invariant.1,
      d.2 ∙ s.invariant.2,
      links-more a.located.now.table.words.now a.located.now.table.checks a.located.now.table.places a.located.now.table.size c.args.located.now.table.accepted s.j h _ _ e w _ _ _
          (d.3 (λ q. holders (check a.located.now.table.words.now a.located.now.table.checks) q s.j) (rw e s.invariant.3)),
    )

pub returns : goal.returns
returns c =
    let a = c.args in
    let s = c.loop-j in
    (s.invariant.0, s.invariant.1, s.invariant.2, links-all a.located.now.table.words.now a.located.now.table.checks a.located.now.table.places a.located.now.table.size c.args.located.now.table.accepted s.j c.loop-j-test.false (omega arith) _ _ _ s.invariant.3)
