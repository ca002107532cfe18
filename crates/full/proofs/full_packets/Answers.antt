-- `full::full_packets` meets its contract.
use Prim.Native.Nat.{ℕ}
use mathlib.Core.Path.{◌≡◌, refl, ap, ◌∙◌}
use native.Mathlib.Omega.{arith}
use lib.ListN.{replicate}
use Rattle.std.proofs.Common.{rules}
use Rattle.restore.specs.SavedLaws.{put_back}
use Rattle.table.specs.Accepted.{few-places}
use Rattle.full.proofs.Answering.{answer-decided, answer-clashing, fit-places}
use Rattle.full.proofs.full_packets.Goals as goal

pub returns-then-agrees : goal.returns-then-agrees
returns-then-agrees c =
    let a = c.args in
    let e = c.tally_of.ensures in
    let f = c.tally_of-then-agrees.ensures in
    answer-decided a.table.now.words.now a.block.now a.map.now a.work.now c.requires _ _ _ c.decide-agrees.ensures c.if-agrees.true _ (rw (e, f) refl) refl _ (c.fill.ensures.after (search rules) ∙ ap (λ (k : ℕ). replicate k 0) c.decide-agrees.auto.work)

pub returns : goal.returns
returns c =
    let a = c.args in
    let k = a.table.now.accepted in
    let long = fit-places _ _ _ _ k a.block.now a.map.now a.work.now c.requires in
    let back = put_back _ a.map.now _ _ _ a.table.now.places (few-places _ _ _ _ k) long (omega (arith, long)) c.copy.ensures c.copy-2.ensures in
    answer-clashing a.table.now.words.now a.block.now a.map.now a.work.now c.requires _ _ _ c.decide-agrees.ensures _ _ _ a.table.now.accepted c.if-agrees.false _ refl refl _ (c.fill.ensures.after (search rules) ∙ ap (λ (k : ℕ). replicate k 0) c.decide-agrees.auto.work) _ _ back c.zero_lost.ensures
