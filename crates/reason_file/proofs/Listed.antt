-- The list of a reason lies within its buffer.
use mathlib.Core.Path.{◌≡◌, sym, ap}
use mathlib.Core.Bool.{true, false}
use mathlib.Core.List.{List, ◌++◌}
use Prim.Native.Nat.{ℕ, zero, suc, ◌≤◌}
use native.Mathlib.Omega.{arith}
use lib.Dec.{eqb}
use lib.ListN.{length, take, length-append}
use lib.Seq.{length-take-le}
use Rattle.std.specs.declared.result.Result.TheVariants.{Ok}
use Rattle.why.specs.Why.{WhyAnswer, why_answer_of, why_answer_at, why_refusal, Explains}
use Rattle.explain.specs.Kinds.{length_of}
use Rattle.why.specs.declared.Reason.{Reason}

-- by the refusal's number: the buffer has the list and something behind it
at : (k kind : ℕ) (list after rest reason reason' : List ℕ) (r : Reason) → why_answer_of (Ok r) ≡ why_answer_at k kind list after
    → reason' ≡ elim (eqb k 0) [ true ↦ list ++ rest | false ↦ reason ] → length_of r.told ≤ length reason'
at zero kind list after rest reason reason' r e is =
    let a : length_of r.told ≡ length list = ap (λ (x : WhyAnswer). x.length) e in
    let b : length reason' ≡ length (list ++ rest) = ap length is in
    let d = length-append list rest in
    omega arith
at (suc k) kind list after rest reason reason' r e is =
    let a : 0 ≡ suc k = ap (λ (x : WhyAnswer). x.refusal) e in absurd (omega arith)

module _ (t b map work : List ℕ) (p : ℕ) (reason : List ℕ) (r : Reason) (b' map' work' reason' : List ℕ)
    (x : Explains t b map work p reason (why_answer_of (Ok r)) b' map' work' reason') where
  pub list-within : length_of r.told ≤ length reason'
  list-within = at (why_refusal t b map work p reason) _ x.list _ _ reason reason' r x.report x.reason-is

  pub list_counts : length_of r.told ≡ length (take (length_of r.told) reason')
  list_counts = sym (length-take-le (length_of r.told) reason' list-within)
