-- `lengthen::lengthen` meets its contract.
use mathlib.Core.Path.{sym, ap, ◌∙◌}
use Rattle.std.proofs.lemmas.Result.{err_from_is_err_and}
use Rattle.refusals.proofs.Numbers.{number-some}
use Rattle.erasure.specs.Offered.{held}
use Rattle.lengthen.specs.LengthenLaws.{old-refused, new-refused, offer-fits}
use Rattle.lengthen.proofs.Answering.{answer-refused}
use Rattle.lengthen.proofs.lengthen.Goals as goal

pub returns-in_err-before : goal.returns-in_err-before
returns-in_err-before c =
    let e = c.in_err-before.ensures.refusal in
    let p = err_from_is_err_and c.from_residual.result c.from_residual.ensures.1 in
    rw (p.1, p.2) (answer-refused c.args.old.now c.args.new.now (held c.args.block.now c.args.map.now) (held c.args.arrivals.now c.args.arrived.now) _ (e ∙ sym (old-refused c.args.old.now c.args.new.now (held c.args.block.now c.args.map.now) (held c.args.arrivals.now c.args.arrived.now) (λ z. number-some _ (e ∙ z)))))

pub returns-in_err-after : goal.returns-in_err-after
returns-in_err-after c =
    let e = c.in_err-after.ensures.refusal in
    let w = ap (λ r. r.now) c.in_ok-before.ensures.words in
    let k = rw w at c.in_ok-before.before.accepted in
    let p = err_from_is_err_and c.from_residual-in_err-after.result c.from_residual-in_err-after.ensures.1 in
    rw (p.1, p.2) (answer-refused c.args.old.now c.args.new.now (held c.args.block.now c.args.map.now) (held c.args.arrivals.now c.args.arrived.now) _ (e ∙ sym (new-refused c.args.old.now c.args.new.now (held c.args.block.now c.args.map.now) (held c.args.arrivals.now c.args.arrived.now) k.accepted (λ z. number-some _ (e ∙ z)))))

pub returns-in_err-look : goal.returns-in_err-look
returns-in_err-look c =
    let w = ap (λ r. r.now) c.in_ok-before.ensures.words in
    let v = ap (λ r. r.now) c.in_ok-after.ensures.words in
    let e = rw (w, v) at c.in_err-look.ensures in
    let p = err_from_is_err_and c.from_residual-in_err-look.result c.from_residual-in_err-look.ensures.1 in
    rw (p.1, p.2) (answer-refused c.args.old.now c.args.new.now (held c.args.block.now c.args.map.now) (held c.args.arrivals.now c.args.arrived.now) _ e)

pub go_on-requires : goal.go_on-requires
go_on-requires c = offer-fits c.in_ok-before.before.words.now c.in_ok-after.after.words.now (held c.args.block.now c.args.map.now) (held c.args.arrivals.now c.args.arrived.now) (sym c.in_ok-look.ensures)
