-- `lengthen::go_on` meets its contract.
use mathlib.Core.Path.{refl, ap, ◌∙◌}
use Rattle.std.proofs.lemmas.Result.{err_from_is_err_and}
use Rattle.erasure.specs.Offered.{Held, held}
use Rattle.lengthen.proofs.Answering.{answer-accepted, answer-contradicted, started}
use Rattle.lengthen.proofs.go_on.Goals as goal

pub returns-in_err-restore_packets : goal.returns-in_err-restore_packets
returns-in_err-restore_packets c =
    let a = c.args.old.now.accepted in
    let z = c.args.new.now.accepted in
    let e = c.enter_all.ensures in
    let begun = started c.args.old.now.words.now c.args.new.now.words.now _ _ _ a.places-are z.places-are z.size_is (held c.args.block.now c.args.map.now) (held c.args.arrivals.now c.args.arrived.now) in
    let p = err_from_is_err_and c.from_residual.result c.from_residual.ensures.1 in
    rw (p.1, p.2) (answer-contradicted c.args.old.now.words.now c.args.new.now.words.now (held c.args.block.now c.args.map.now) (held c.args.arrivals.now c.args.arrived.now) c.requires _ _ _ _ _ (e.block ∙ ap (λ (x : Held). x.block) begun) (e.map ∙ ap (λ (x : Held). x.map) begun) c.in_err-restore_packets.ensures refl _ refl refl)

pub returns : goal.returns
returns c =
    let a = c.args.old.now.accepted in
    let z = c.args.new.now.accepted in
    let e = c.enter_all.ensures in
    let begun = started c.args.old.now.words.now c.args.new.now.words.now _ _ _ a.places-are z.places-are z.size_is (held c.args.block.now c.args.map.now) (held c.args.arrivals.now c.args.arrived.now) in
    answer-accepted c.args.old.now.words.now c.args.new.now.words.now (held c.args.block.now c.args.map.now) (held c.args.arrivals.now c.args.arrived.now) c.requires _ _ _ _ _ (e.block ∙ ap (λ (x : Held). x.block) begun) (e.map ∙ ap (λ (x : Held). x.map) begun) c.in_ok-restore_packets.ensures refl _ refl refl
