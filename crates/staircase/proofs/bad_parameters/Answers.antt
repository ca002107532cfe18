-- `bad_parameters` meets its contract: the tests, one after the other.
use native.Mathlib.Omega.{arith}
use Rattle.staircase.specs.Parameters.{no_source, not-above, too_few, too_many, over-checks, seed-zero, seed-decides}
use Rattle.staircase.proofs.bad_parameters.Goals as goal

pub returns-then-k-eq0 : goal.returns-then-k-eq0
returns-then-k-eq0 c = let a = c.args in no_source a.k a.n a.ones a.seed c.if-k-eq0.true

pub returns-then-n-k : goal.returns-then-n-k
returns-then-n-k c = let a = c.args in not-above a.k a.n a.ones a.seed (λ z. omega arith) (omega arith)

pub returns-then-ones-lt-LEAST_PER_COLUMN : goal.returns-then-ones-lt-LEAST_PER_COLUMN
returns-then-ones-lt-LEAST_PER_COLUMN c = let a = c.args in too_few a.k a.n a.ones a.seed (λ z. omega arith) (omega arith) (omega arith)

pub returns-then-ones-gt-MOST_PER_COLUMN : goal.returns-then-ones-gt-MOST_PER_COLUMN
returns-then-ones-gt-MOST_PER_COLUMN c =
    let a = c.args in
    too_many a.k a.n a.ones a.seed (λ z. omega arith) (omega arith) (omega arith) (omega arith)

pub returns-then-n-k-2 : goal.returns-then-n-k-2
returns-then-n-k-2 c =
    let a = c.args in
    over-checks a.k a.n a.ones a.seed (λ z. omega arith) (omega arith) (omega arith) (omega arith) (omega arith)

pub returns-then-seed-eq0 : goal.returns-then-seed-eq0
returns-then-seed-eq0 c =
    let a = c.args in
    seed-zero a.k a.n a.ones a.seed (λ z. omega arith) (omega arith) (omega arith) (omega arith) (omega arith) (omega arith)

pub returns : goal.returns
returns c =
    let a = c.args in
    seed-decides a.k a.n a.ones a.seed (λ z. omega arith) (omega arith) (omega arith) (omega arith) (omega arith) (λ z. omega arith)
