-- `encoder::encode` meets its contract: a wrong size, the plan's refusal, a wrong length, or what the steps within the limit give.
use Rattle.std.proofs.Common.{◌≡◌, refl, sym, ap, ◌∙◌, false, min, length, rules, arith}
use Rattle.refusals.proofs.Numbers.{number-some}
use Rattle.refusals.specs.Refusals.{number_of}
use Rattle.plan.specs.Layout.{step_count, plan_refusal}
use Rattle.encoder.specs.Answers.{encode_answer_of}
use Rattle.encoder.specs.Encoding.{wrong_size, refused_by}
use Rattle.encoder.proofs.EncodingLaws.{refused-size, refused-plan, refused-lengths, right-lengths}
use Rattle.encoder.proofs.CallLaws.{lent, refused-call, accepted-call}
use Rattle.encoder.proofs.encode.Goals as goal

pub returns-then-outside : goal.returns-then-outside
returns-then-outside c =
    let a = c.args in let w = a.plan.now in let i = a.information.now in let b = a.block.now in let d = a.scratch.now in
    let q = refused-call w a.s i b d a.limit 2 refl (refused-size w a.s (length i) (length b) (length d) (sym c.outside.ensures ∙ c.if-outside.true)) (λ z. omega arith) in
    record { answer = q.0; block = q.1.0; scratch = q.1.1 }

pub returns-in_err-plan : goal.returns-in_err-plan
returns-in_err-plan c =
    let a = c.args in let w = a.plan.now in let i = a.information.now in let b = a.block.now in let d = a.scratch.now in
    let z : wrong_size a.s ≡ false = sym c.outside.ensures ∙ c.if-outside.false in
    let e = c.in_err-plan.ensures.refusal in
    let some = number-some c.in_err-plan.field-0.0 in
    let same : encode_answer_of c.from_residual.result ≡ refused_by (number_of c.in_err-plan.field-0.0) = search rules in
    let q = refused-call w a.s i b d a.limit _ same (refused-plan w a.s (length i) (length b) (length d) z (λ n. some (e ∙ n)) ∙ sym e) some in
    record { answer = q.0; block = q.1.0; scratch = q.1.1 }

pub returns-then-wrong_lengths : goal.returns-then-wrong_lengths
returns-then-wrong_lengths c =
    let a = c.args in let w = a.plan.now in let i = a.information.now in let b = a.block.now in let d = a.scratch.now in
    let z : wrong_size a.s ≡ false = sym c.outside.ensures ∙ c.if-outside.false in
    let p : plan_refusal w ≡ 0 = sym c.in_ok-plan.ensures.refusal in
    let same = ap (λ r. r.now) c.in_ok-plan.ensures.words in
    let q = refused-call w a.s i b d a.limit 5 refl
    (refused-lengths w a.s (length i) (length b) (length d) z p (rw same at (sym c.wrong_lengths.ensures ∙ c.if-wrong_lengths.true))) (λ k. omega arith) in
    record { answer = q.0; block = q.1.0; scratch = q.1.1 }

pub returns : goal.returns
returns c =
    let a = c.args in let w = a.plan.now in let i = a.information.now in let b = a.block.now in let d = a.scratch.now in
    let z : wrong_size a.s ≡ false = sym c.outside.ensures ∙ c.if-outside.false in
    let p : plan_refusal w ≡ 0 = sym c.in_ok-plan.ensures.refusal in
    let same = ap (λ r. r.now) c.in_ok-plan.ensures.words in
    let ok = right-lengths w a.s (length i) (length b) (length d) z p (rw same at (sym c.wrong_lengths.ensures ∙ c.if-wrong_lengths.false)) in
    let steps : c.min-steps.result ≡ min a.limit (step_count w) = c.min-steps.ensures ∙ ap (min a.limit) (rw same at c.step_count.ensures) in
    let q = accepted-call w a.s i b d a.limit _ _ _ _ _ ok (lent ok c.prepare.auto.block c.prepare.auto.scratch) (rw (steps, same) at c.prepare.ensures) (rw (steps, same) at c.run.ensures) in
    record { answer = q.0; block = q.1.0; scratch = q.1.1 }
