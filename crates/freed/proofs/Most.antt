-- The scan of the flags for the first check that is worth most.
use mathlib.Core.Path.{◌≡◌, sym, ap, ◌∙◌}
use mathlib.Core.List.{List, ◌∷◌}
use Prim.Native.Nat.{ℕ, suc, ◌+◌, ◌-◌, ◌<◌, ◌≤◌}
use native.Mathlib.Numerals.{add-one}
use native.Mathlib.Omega.{arith}
use lib.ListN.{get_or}
use borrow.Author.Tests.{le-leb, lt-leb, eq-eqb, ne_eqb}
use Rattle.freed.specs.Most.{lives, most_from}

pub lives-hit : (live : List ℕ) (i m : ℕ) → i < m → get_or live i 0 ≡ 1 → lives live i (m - i) ≡ i ∷ lives live (i + 1) (m - (i + 1))
unfolding lives
lives-hit live i m h e =
    let q : m - i ≡ suc (m - (i + 1)) = omega arith in
    ap (lives live i) q ∙ rw (eq-eqb _ _ e) (ap (λ (k : ℕ). i ∷ lives live k (m - (i + 1))) (sym (add-one i)))

pub lives-miss : (live : List ℕ) (i m : ℕ) → i < m → (get_or live i 0 ≡ 1 → ⊥) → lives live i (m - i) ≡ lives live (i + 1) (m - (i + 1))
unfolding lives
lives-miss live i m h e =
    let q : m - i ≡ suc (m - (i + 1)) = omega arith in
    ap (lives live i) q ∙ rw (ne_eqb _ _ e) (ap (λ (k : ℕ). lives live k (m - (i + 1))) (sym (add-one i)))

pub lives-end : (f : ℕ → ℕ) (b w : ℕ) (live : List ℕ) (m : ℕ) → most_from f b w (lives live m (m - m)) ≡ b
unfolding lives most_from
lives-end f b w live m = let q : m - m ≡ 0 = omega arith in rw q

pub most-up : (f : ℕ → ℕ) (b w i : ℕ) (R : List ℕ) → w ≤ f i → most_from f b w (i ∷ R) ≡ most_from f i (f i + 1) R
unfolding most_from
most-up f b w i R h = rw (le-leb w (f i) h, most_from)

pub most-keep : (f : ℕ → ℕ) (b w i : ℕ) (R : List ℕ) → f i < w → most_from f b w (i ∷ R) ≡ most_from f b w R
unfolding most_from
most-keep f b w i R h = rw (lt-leb w (f i) h, most_from)
