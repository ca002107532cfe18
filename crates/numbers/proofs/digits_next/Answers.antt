-- `numbers::digits_next` meets its contract.
use Rattle.std.proofs.Common.{sym, ◌∙◌, true≢false}
use Rattle.numbers.proofs.Laws.{after-digit, after-gap, after-other}
use Rattle.numbers.proofs.digits_next.Goals as goal

pub returns-then-is_digit-clause-digits : goal.returns-then-is_digit-clause-digits
returns-then-is_digit-clause-digits c = after-digit _ _ (sym c.is_digit.ensures ∙ c.if-is_digit.true)

pub returns-then-is_gap-clause-digits : goal.returns-then-is_gap-clause-digits
returns-then-is_gap-clause-digits c = after-gap _ _ (sym c.is_gap.ensures ∙ c.if-is_gap.true)

pub returns-clause-digits : goal.returns-clause-digits
returns-clause-digits c = after-other _ _ (sym c.is_gap.ensures ∙ c.if-is_gap.false) c.requires (λ e. absurd (true≢false (sym e ∙ sym c.is_digit.ensures ∙ c.if-is_digit.false)))
