-- Laws of the numbers in order (`from`): how many, which, in two parts, and what a filter leaves of them.
use Rattle.std.specs.Prelude.{◌≡◌, refl, Bool, true, false, [], ◌∷◌, ◌++◌, map, ◌↔◌, ℕ, zero, suc, ◌+◌, ◌-◌, ◌<◌, ◌≤◌, eqb, length, get_or}
use Rattle.std.proofs.Common.{sym, ap, ap₂, ◌∙◌, add-one, arith}
use Rattle.std.proofs.lemmas.List.{length-map}
use Rattle.lists.specs.Lists.{All, All.nil, All.cons, any_of, below, from, filter, has, rev}
use Rattle.lists.specs.ListLaws.{all_map, all_in, map_same, any_none, none_any, has-filter, has_kept}
use Rattle.lists.specs.Tests.{by_bool, eqb-false, eqb-lt, or_r}

pub from-length : (i c : ℕ) → length (from i c) ≡ c
unfolding from
from-length i zero = refl
from-length i (suc c) = ap suc (from-length (suc i) c)

pub from_at : (i c j : ℕ) → j < c → get_or (from i c) j 0 ≡ i + j
unfolding from
from_at i zero j h = absurd (omega arith)
from_at i (suc c) zero h = omega arith
from_at i (suc c) (suc j) h = let e = from_at (suc i) c j (omega arith) in omega arith

-- those below n from p on: one, and the others; none
pub from_next : (n p : ℕ) → p < n → from p (n - p) ≡ p ∷ from (p + 1) (n - (p + 1))
unfolding from
from_next n p h = let e : n - p ≡ suc (n - (p + 1)) = omega arith in ap (from p) e ∙ ap (λ k. p ∷ from k (n - (p + 1))) (sym (add-one p))

pub from-none : (p n : ℕ) → n ≤ p → from p (n - p) ≡ []
unfolding from
from-none p n h = let e : n - p ≡ 0 = omega arith in rw e

pub from-snoc : (i c : ℕ) → from i (suc c) ≡ from i c ++ ((i + c) ∷ [])
unfolding from
from-snoc i zero = let e : i ≡ i + 0 = omega arith in ap (λ x. x ∷ []) e
from-snoc i (suc c) = let e : suc i + c ≡ i + suc c = omega arith in ap (λ l. i ∷ l) (from-snoc (suc i) c ∙ ap (λ x. from (suc i) c ++ (x ∷ [])) e)

pub from-below : (n : ℕ) → from 0 n ≡ rev (below n)
unfolding from
from-below zero = refl
from-below (suc n) = let e : 0 + n ≡ n = omega arith in from-snoc 0 n ∙ ap₂ (λ l x. l ++ (x ∷ [])) (from-below n) e

-- in two parts
pub from-add : (i a b : ℕ) → from i (a + b) ≡ from i a ++ from (i + a) b
unfolding from
from-add i zero b = let z : i ≡ i + 0 = omega arith in let y : 0 + b ≡ b = omega arith in ap₂ from z y
from-add i (suc a) b = let z : suc a + b ≡ suc (a + b) = omega arith in let y : suc i + a ≡ i + suc a = omega arith in
    ap (from i) z ∙ ap (λ x. i ∷ x) (from-add (suc i) a b ∙ ap (λ x. from (suc i) a ++ from x b) y)

-- all lie in the range; a number of the range is a member, a lower one is none
pub from_all : (i c : ℕ) → All (λ p. (i ≤ p) × (p < i + c)) (from i c)
unfolding from
from_all i zero = nil
from_all i (suc c) = cons {x = i} (omega arith, omega arith) (all_map (λ p h. let a = h.0 in let b = h.1 in (omega arith, omega arith)) (from_all (suc i) c))

pub from-has : (i c p : ℕ) → i ≤ p → p < i + c → has p (from i c) ≡ true
unfolding from
from-has i zero p a b = absurd (omega arith)
from-has i (suc c) p a b = by_bool (eqb p i)
    (λ e. rw e)
    (λ e. let z = eqb-false p i e in or_r (eqb p i) _ (from-has (suc i) c p (omega arith) (omega arith)))

pub from-not : (i c p : ℕ) → p < i → has p (from i c) ≡ false
unfolding from
from-not i zero p h = refl
from-not i (suc c) p h = rw (eqb-lt p i h) (from-not (suc i) c p (omega arith))

-- a number below n is left by a filter just if it passes
pub filter-has : (f : ℕ → Bool) (n p : ℕ) → p < n → has p (filter f (from 0 n)) ≡ f p
filter-has f n p h = by_bool (f p)
    (λ e. has_kept f p (from 0 n) e (from-has 0 n p (omega arith) (omega arith)) ∙ sym e)
    (λ e. has-filter f p (from 0 n) e ∙ sym e)

-- what f makes of them
pub map-from-at : {A : Type 0} (f : ℕ → A) (d : A) (c j : ℕ) → j < c → get_or (map f (from 0 c)) j d ≡ f j
unfolding from
map-from-at {A} f d c j h = go 0 c j h ∙ ap f {x = 0 + j} {y = j} (omega arith)
  where
    go : (i c j : ℕ) → j < c → get_or (map f (from i c)) j d ≡ f (i + j)
    go i zero j h = absurd (omega arith)
    go i (suc c) zero h = ap f {x = i} {y = i + 0} (omega arith)
    go i (suc c) (suc j) h = go (suc i) c j (omega arith) ∙ ap f {x = suc i + j} {y = i + suc j} (omega arith)

pub each-length : {A : Type 0} (f : ℕ → A) (n : ℕ) → length (map f (from 0 n)) ≡ n
each-length f n = length-map (from 0 n) f ∙ from-length 0 n

pub each_same : {A : Type 0} (f g : ℕ → A) (n : ℕ) → ((p : ℕ) → p < n → f p ≡ g p) → map f (from 0 n) ≡ map g (from 0 n)
each_same f g n same = map_same f g (all_map (λ p h. let u = h.1 in same p (omega arith)) (from_all 0 n))

-- none below n passes
pub any-from : (f : ℕ → Bool) (n : ℕ) → (any_of f (from 0 n) ≡ false) ↔ ((p : ℕ) → p < n → f p ≡ false)
any-from f n = (
  (λ e p h. all_in (λ x. f x ≡ false) p (from-has 0 n p (omega arith) (omega arith)) (none_any f (from 0 n) e)),
  (λ g. any_none f (all_map (λ p h. let u = h.1 in g p (omega arith)) (from_all 0 n))),
)
