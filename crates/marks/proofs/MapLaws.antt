-- What is found in a map and counted there, as the definitions have it.
use Rattle.std.specs.Prelude.{◌≡◌, refl, Bool, ◌||◌, List, [], ◌∷◌, ℕ, ◌+◌, cond, eqb, count_by}
use Rattle.std.specs.List.{list_any}
use Rattle.std.proofs.Common.{sym, ap, arith, add-one}
use Rattle.std.proofs.lemmas.List.Recursion.{is_count_by}
use Rattle.lists.specs.Tests.{eqb_comm, by_bool}
use Rattle.lists.specs.Lists.{any_of}
use Rattle.erasure.specs.Restoring.{tally}

pub any_is : (f : ℕ → Bool) (l : List ℕ) → list_any f l ≡ any_of f l
any_is f [] = refl
any_is f (x ∷ l) = ap (λ b. f x || b) (any_is f l)

pub count_is : (v : ℕ) (l : List ℕ) → count_by (λ b. eqb b v) l ≡ tally v l
count_is v l = sym (is_count_by (tally v) (λ b. eqb b v) refl (λ x xs. step x xs) l)
  where
    step : (x : ℕ) (xs : List ℕ) → tally v (x ∷ xs) ≡ cond (eqb x v) (1 + tally v xs) (tally v xs)
    step x xs = rw (eqb_comm v x) (by_bool (eqb x v) (λ e. rw (e, ← add-one (tally v xs)) (omega arith)) (λ e. rw e))
