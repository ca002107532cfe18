-- `numerals::number_of` meets its contract.
use Rattle.std.proofs.Common.{◌≡◌, ◌*◌, arith, sym, ◌∙◌, eqb-true}
use Rattle.std.proofs.lemmas.Bool.{eqb-false}
use Rattle.numerals.proofs.Laws.{empty-none, rest-other, rest-large, rest-none}
use Rattle.numerals.proofs.number_of.Goals as goal

pub returns-then-is_empty : goal.returns-then-is_empty
returns-then-is_empty c = empty-none _ (eqb-true _ _ (sym c.is_empty.ensures ∙ c.if-is_empty.true))

pub returns-then-not-is_digit : goal.returns-then-not-is_digit
returns-then-not-is_digit c = rest-other _ _ _ c.loop-byte.invariant (omega arith) (sym c.is_digit.ensures ∙ c.if-not-is_digit.true)

pub returns-in_err-checked_mul : goal.returns-in_err-checked_mul
returns-in_err-checked_mul c =
    let h = c.in_err-checked_mul.ensures in
    c.from_residual.ensures ∙ rest-large _ _ _ c.loop-byte.invariant (omega arith) (omega arith)

pub returns-in_err-x : goal.returns-in_err-x
returns-in_err-x c =
    let h = c.in_err-x.ensures in
    let z : c.in_ok-checked_mul.field-0 ≡ c.loop-byte.x * 10 = omega arith in
    let d = c.from-digit.ensures in
    c.from_residual-in_err-x.ensures ∙ rest-large _ _ _ c.loop-byte.invariant (omega arith) (omega arith)

pub returns : goal.returns
returns c = rest-none _ _ _ c.loop-byte.invariant (omega arith) (eqb-false _ _ (sym c.is_empty.ensures ∙ c.if-is_empty.false))
