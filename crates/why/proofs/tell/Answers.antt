-- `why::tell` meets its contract.
use Prim.Native.Nat.{ℕ}
use mathlib.Core.Path.{ap, ◌∙◌}
use borrow.Author.Tests.{eq-eqb, ne_eqb}
use lib.ListN.{replicate}
use Rattle.std.proofs.Common.{rules}
use Rattle.table.specs.Table.{checks}
use Rattle.why.proofs.Telling.{tells-received, tells-found}
use Rattle.why.proofs.tell.Goals as goal

pub returns-then-lost-place-ne1 : goal.returns-then-lost-place-ne1
returns-then-lost-place-ne1 c =
    let a = c.args in
    tells-received a.table.now.places (checks a.table.now.words.now) a.lost.now a.place (ne_eqb _ 1 c.if-lost-place-ne1.true) (c.fill.ensures.after (search rules) ∙ ap (λ (k : ℕ). replicate k 0) c.requires.3)

pub returns : goal.returns
returns c =
    let a = c.args in
    tells-found a.table.now.places (checks a.table.now.words.now) a.lost.now a.place (eq-eqb _ 1 c.if-lost-place-ne1.false) (c.fill.ensures.after (search rules) ∙ ap (λ (k : ℕ). replicate k 0) c.requires.3) c.explain.ensures
