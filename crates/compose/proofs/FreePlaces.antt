-- The places below n, ascending, one after the other.
use mathlib.Core.Path.{◌≡◌, sym, ap, ◌∙◌}
use mathlib.Core.List.{List, [], ◌∷◌}
use Prim.Native.Nat.{ℕ, ◌+◌, ◌-◌, ◌<◌}
use native.Mathlib.Omega.{arith}
use borrow.Author.Tests.{eq-eqb, ne_eqb}
use lib.ListN.{get_or}
use Rattle.lists.specs.Lists.{below, rev, minus, from}
use Rattle.lists.specs.Numbers.{from-below, from_next}
use Rattle.emit.specs.Emit.{marked}
use Rattle.emit.specs.MarkLaws.{has-marked, minus-in, minus-out}

-- the places from p on that are not marked
abbrev pub frees : ℕ → List ℕ → ℕ → List ℕ
frees n used p = minus (from p (n - p)) (marked used)

pub frees-marked : (n : ℕ) (used : List ℕ) (p : ℕ) → p < n → get_or used p 0 ≡ 1 → frees n used p ≡ frees n used (p + 1)
frees-marked n used p h e = ap (λ l. minus l (marked used)) (from_next n p h) ∙ minus-out p (from (p + 1) (n - (p + 1))) (marked used) (has-marked used p ∙ eq-eqb (get_or used p 0) 1 e)

pub frees-next : (n : ℕ) (used : List ℕ) (p : ℕ) → p < n → (get_or used p 0 ≡ 1 → ⊥) → frees n used p ≡ p ∷ frees n used (p + 1)
frees-next n used p h e = ap (λ l. minus l (marked used)) (from_next n p h) ∙ minus-in p (from (p + 1) (n - (p + 1))) (marked used) (has-marked used p ∙ ne_eqb (get_or used p 0) 1 e)

pub frees_all : (n : ℕ) (used : List ℕ) → minus (rev (below n)) (marked used) ≡ frees n used 0
frees_all n used = let e : n ≡ n - 0 = omega arith in ap (λ l. minus l (marked used)) (sym (from-below n) ∙ ap (from 0) e)

pub frees-none : (n : ℕ) (used : List ℕ) → frees n used n ≡ []
unfolding from
frees-none n used = let e : n - n ≡ 0 = omega arith in ap (λ c. minus (from n c) (marked used)) e
