-- `blame::next_suspect` meets its contract: the rest decides.
use mathlib.Core.Path.{◌∙◌}
use native.Mathlib.Omega.{arith}
use Rattle.blame.proofs.Searching.{tried_same, step-over, stop-at, stop-at-end}
use Rattle.suspects.specs.Blame.{suspect}
use Rattle.blame.proofs.next_suspect.Goals as goal

pub returns-then-is_suspect : goal.returns-then-is_suspect
returns-then-is_suspect c =
    let l = c.loop-p in
    let a = c.args in
    let e = c.is_suspect.ensures in
    let found = tried_same a.table.now.words.now a.table.now.places a.table.now.size _ _ _ _ l.invariant.0 l.invariant.1 l.p _ _ e.suspect c.if-is_suspect.true in
    record { next = (c.loop-p-test.true, stop-at (suspect a.table.now.words.now a.block.now a.map.now) a.first a.table.now.places l.p l.invariant.3 c.loop-p-test.true found); block = e.block ∙ l.invariant.0; map = e.map ∙ l.invariant.1; column = e.column ∙ l.invariant.2 }

pub loop-p-preserved : goal.loop-p-preserved
loop-p-preserved c =
    let l = c.loop-p in
    let a = c.args in
    let e = c.is_suspect.ensures in
    let none = tried_same a.table.now.words.now a.table.now.places a.table.now.size _ _ _ _ l.invariant.0 l.invariant.1 l.p _ _ e.suspect c.if-is_suspect.false in
    (e.block ∙ l.invariant.0, e.map ∙ l.invariant.1, e.column ∙ l.invariant.2, step-over (suspect a.table.now.words.now a.block.now a.map.now) a.first a.table.now.places l.p l.invariant.3 c.loop-p-test.true none)

pub returns : goal.returns
returns c =
    let l = c.loop-p in
    let a = c.args in
    let end = c.loop-p-test.false in
    record { next = stop-at-end (suspect a.table.now.words.now a.block.now a.map.now) a.first a.table.now.places l.p l.invariant.3 (omega arith); block = l.invariant.0; map = l.invariant.1; column = l.invariant.2 }
