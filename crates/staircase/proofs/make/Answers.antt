-- `make` meets its contract: the refusals before the fill, and then the rest.
use mathlib.Core.Path.{sym, ◌∙◌}
use native.Mathlib.Omega.{arith}
use Rattle.staircase.specs.Parameters.{fine}
use Rattle.staircase.proofs.Answering.{answer-bad, answer-beyond, answer-length}
use Rattle.staircase.proofs.make.Goals as goal

pub returns-then-bad_parameters : goal.returns-then-bad_parameters
returns-then-bad_parameters c =
    let a = c.args in
    let x = answer-bad a.k a.n a.ones a.seed a.s a.table.now (sym c.bad_parameters.ensures ∙ c.if-bad_parameters.true) in
    record { answer = x.answer; table = x.table }

pub overflow_sub-n : goal.overflow_sub-n
overflow_sub-n c =
    let a = c.args in
    let l = (fine a.k a.n a.ones a.seed (sym c.bad_parameters.ensures ∙ c.if-bad_parameters.false)).above in
    omega arith

pub returns-then-beyond : goal.returns-then-beyond
returns-then-beyond c =
    let a = c.args in
    let good = sym c.bad_parameters.ensures ∙ c.if-bad_parameters.false in
    let x = answer-beyond a.k a.n a.ones a.seed a.s a.table.now good (sym c.beyond.ensures ∙ c.if-beyond.true) in
    record { answer = x.answer; table = x.table }

pub returns-then-table-ne-MOST_WORDS : goal.returns-then-table-ne-MOST_WORDS
returns-then-table-ne-MOST_WORDS c =
    let a = c.args in
    let good = sym c.bad_parameters.ensures ∙ c.if-bad_parameters.false in
    let far = sym c.beyond.ensures ∙ c.if-beyond.false in
    let x = answer-length a.k a.n a.ones a.seed a.s a.table.now good far c.if-table-ne-MOST_WORDS.true in
    record { answer = x.answer; table = x.table }

pub make_table-requires : goal.make_table-requires
make_table-requires c =
    let good = sym c.bad_parameters.ensures ∙ c.if-bad_parameters.false in
    let far = sym c.beyond.ensures ∙ c.if-beyond.false in
    record { parameters = good; limits = far; room = c.if-table-ne-MOST_WORDS.false }
