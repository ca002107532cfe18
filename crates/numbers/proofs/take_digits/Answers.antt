-- `numbers::take_digits` meets its contract. The loop's invariant: d digits of value v stand from at to i.
use mathlib.Core.Path.{refl, sym, ◌∙◌}
use Prim.Native.Nat.{◌<◌}
use native.Mathlib.Numerals.{add-one}
use native.Mathlib.Omega.{arith}
use borrow.Author.Tests.{not-true, not-false}
use lib.ListN.{get_or}
use Rattle.numerals.specs.NumeralLaws.{digit-range}
use Rattle.numbers.specs.Steps.{value_low, few-low}
use Rattle.numbers.proofs.Reading.{digit-on}
use Rattle.numbers.proofs.take_digits.Goals as goal

pub loop-i-init : goal.loop-i-init
loop-i-init c = (omega arith, omega arith, omega arith, refl)

pub returns-then-d-eq-MOST_DIGITS : goal.returns-then-d-eq-MOST_DIGITS
returns-then-d-eq-MOST_DIGITS c =
    let s = c.loop-i in
    record { digits = s.d; few = s.invariant.0; low = s.invariant.1; moved = s.invariant.2; same = s.invariant.3; stops = λ h k. absurd (omega arith) }

pub is_digit-requires : goal.is_digit-requires
is_digit-requires c = tt

pub returns-then-not-is_digit : goal.returns-then-not-is_digit
returns-then-not-is_digit c =
    let s = c.loop-i in
    record { digits = s.d; few = s.invariant.0; low = s.invariant.1; moved = s.invariant.2; same = s.invariant.3; stops = λ h k. sym c.is_digit.ensures ∙ not-true _ c.if-not-is_digit.true-raw }

pub overflow_mul-value : goal.overflow_mul-value
overflow_mul-value c = let s = c.loop-i in let l = few-low s.d s.value s.invariant.0 s.invariant.1 in omega arith

pub overflow_sub-value : goal.overflow_sub-value
overflow_sub-value c =
    let s = c.loop-i in
    let t = c.args.text.now in
    let e = sym c.is_digit.ensures ∙ not-false _ c.if-not-is_digit.false-raw in
    let b = digit-range (get_or t s.i 0) e in
    b.0

pub overflow_cast-value : goal.overflow_cast-value
overflow_cast-value c =
    let s = c.loop-i in
    let t = c.args.text.now in
    let e = sym c.is_digit.ensures ∙ not-false _ c.if-not-is_digit.false-raw in
    let b = digit-range (get_or t s.i 0) e in
    omega arith

pub overflow_add-value : goal.overflow_add-value
overflow_add-value c =
    let s = c.loop-i in
    let t = c.args.text.now in
    let e = sym c.is_digit.ensures ∙ not-false _ c.if-not-is_digit.false-raw in
    let b = digit-range (get_or t s.i 0) e in
    let l = few-low s.d s.value s.invariant.0 s.invariant.1 in
    omega arith

pub loop-i-preserved : goal.loop-i-preserved
loop-i-preserved c =
    let s = c.loop-i in
    let t = c.args.text.now in
    let e = sym c.is_digit.ensures ∙ not-false _ c.if-not-is_digit.false-raw in
    let f : s.d < 6 = (let h = s.invariant.0 in omega arith) in
    (omega arith, rw add-one (value_low s.d s.value (get_or t s.i 0) e s.invariant.1), omega arith, s.invariant.3 ∙ digit-on t s.d s.value s.i (omega arith) f e)

pub returns : goal.returns
returns c = let s = c.loop-i in record { digits = s.d; few = s.invariant.0; low = s.invariant.1; moved = s.invariant.2; same = s.invariant.3; stops = λ h k. absurd (omega arith) }
