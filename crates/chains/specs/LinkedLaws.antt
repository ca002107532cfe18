-- Laws of chains that the loop over turns cites: a chain has one list of checks, and that list is the checks that hold the place.
use Rattle.std.specs.Prelude.{◌≡◌, refl, true, false, List, ◌∷◌, ℕ, zero, suc, ◌<◌, ◌≤◌, eqb, length, get_or}
use Rattle.std.proofs.Common.{sym, ap, ◌∙◌, arith, ne_eqb}
use Rattle.std.proofs.lemmas.Bool.{false≢true}
use Rattle.lists.specs.Tests.{eqb-true, eqb-false, by_bool}
use Rattle.lists.specs.Lists.{Distinct, Distinct.dnil, Distinct.dnew, has}
use Rattle.table.specs.Checks.{check}
use Rattle.chains.specs.Linked.{Chain, Chain.end, Chain.link, Links, Linked, holders}

pub chain-wider : {nx ow : List ℕ} (x y : ℕ) {i : ℕ} {js : List ℕ} → x ≤ y → Chain nx ow x i js → Chain nx ow y i js
chain-wider x y h end = end
chain-wider x y h (link i a b c) = link i (omega arith) b (chain-wider x y h c)

-- a chain has one list of checks
pub chain-unique : {nx ow : List ℕ} {x y i : ℕ} {js ks : List ℕ} → Chain nx ow x i js → Chain nx ow y i ks → js ≡ ks
chain-unique end end = refl
chain-unique {nx} {ow} (link i a b c) (link k d e f) = ap (λ l. get_or ow k 0 ∷ l) (chain-unique c f)

-- what the loop over turns is given
pub linked_of : (t : List ℕ) (m n : ℕ) (nx ow head : List ℕ) → n ≤ length head → length nx ≤ length ow → length t ≤ length nx
    → Links nx ow head (length t) (λ p. holders (check t m) p m) → Linked t m n head nx ow
linked_of t m n nx ow head a b c l = record { room = a; same = b; each = λ p h. chain-wider (length t) (length nx) c (l.each p (omega arith)) }

-- ---- the checks that hold a place
pub holders-has : (f : ℕ → List ℕ) (p k j : ℕ) → j < k → has j (holders f p k) ≡ has p (f j)
unfolding holders
holders-has f p zero j h = absurd (omega arith)
holders-has f p (suc k) j h = by_bool (has p (f k))
    (λ e. rw e (by_bool (eqb j k)
    (λ z. let y : j ≡ k = eqb-true j k z in rw (z, y) (sym e))
    (λ z. rw z (let ne = eqb-false j k z in holders-has f p k j (omega arith)))))
    (λ e. rw e (by_bool (eqb j k)
    (λ z. let y : j ≡ k = eqb-true j k z in rw y (holders-none f p k k (omega arith) ∙ sym e))
    (λ z. let ne = eqb-false j k z in holders-has f p k j (omega arith))))
  where
    holders-none : (f : ℕ → List ℕ) (p k j : ℕ) → k ≤ j → has j (holders f p k) ≡ false
    holders-none f p zero j h = refl
    holders-none f p (suc k) j h = by_bool (has p (f k))
        (λ e. rw (e, ne_eqb j k (λ z. omega arith)) (holders-none f p k j (omega arith)))
        (λ e. rw e (holders-none f p k j (omega arith)))

pub holders-inside : (f : ℕ → List ℕ) (p k j : ℕ) → has j (holders f p k) ≡ true → (j < k) × (has p (f j) ≡ true)
unfolding holders
holders-inside f p zero j h = absurd (false≢true h)
holders-inside f p (suc k) j h = by_bool (has p (f k))
    (λ e. by_bool (eqb j k)
    (λ z. let y : j ≡ k = eqb-true j k z in (omega arith, rw y e))
    (λ z. let r = holders-inside f p k j (rw (e, z) at h) in (omega (arith, r.0), r.1)))
    (λ e. let r = holders-inside f p k j (rw e at h) in (omega (arith, r.0), r.1))

pub holders-distinct : (f : ℕ → List ℕ) (p k : ℕ) → Distinct (holders f p k)
unfolding holders
holders-distinct f p zero = dnil
holders-distinct f p (suc k) = by_bool (has p (f k))
    (λ e. rw e (dnew (by_bool (has k (holders f p k)) (λ z. let r = holders-inside f p k k z in absurd (omega (arith, r.0))) (λ z. z)) (holders-distinct f p k)))
    (λ e. rw e (holders-distinct f p k))
