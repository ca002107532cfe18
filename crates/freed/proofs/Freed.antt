-- The places of a check in exactly two live checks, one place after the other.
use mathlib.Core.Path.{◌≡◌, refl, sym, ap, ap₂, ◌∙◌}
use mathlib.Core.Bool.{Bool}
use mathlib.Core.List.{List, [], ◌∷◌, ◌++◌}
use Prim.Native.Nat.{ℕ, ◌+◌, ◌<◌}
use native.Mathlib.Numerals.{add-one}
use native.Mathlib.Omega.{arith}
use borrow.Author.Tests.{eq-eqb, ne_eqb}
use lib.Dec.{eqb}
use lib.ListN.{length, get_or, take, drop}
use lib.Seq.{take-suc}
use Rattle.lists.specs.Lists.{count}
use Rattle.lists.specs.Tests.{by_bool}
use Rattle.table.specs.Accepted.{Located}
use Rattle.table.specs.Checks.{check}
use Rattle.freed.specs.Most.{twos}

-- one member more at the end
count-snoc : (f : ℕ → Bool) (l : List ℕ) (p : ℕ) → count f (l ++ (p ∷ [])) ≡ count f l + count f (p ∷ [])
count-snoc f [] p = omega arith
count-snoc f (q ∷ l) p = let h = count-snoc f l p in by_bool (f q) (λ e. rw (e, count) (omega arith)) (λ e. rw (e, count) h)

pub twos-none : (c ps : List ℕ) → 0 ≡ twos c (take 0 ps)
unfolding twos
twos-none c ps = refl

-- p is the i-th of the places ps
module _ (c ps : List ℕ) (i : ℕ) (more : i < length ps) (p : ℕ) (here : p ≡ get_or ps i 0) where
  next : take (i + 1) ps ≡ take i ps ++ (p ∷ [])
  next = ap (λ (k : ℕ). take k ps) (add-one i) ∙ take-suc ps i 0 more ∙ ap (λ (v : ℕ). take i ps ++ (v ∷ [])) (sym here)

  pub twos-more : get_or c p 0 ≡ 2 → twos c (take (i + 1) ps) ≡ twos c (take i ps) + 1
  unfolding twos
  twos-more e = ap (twos c) next ∙ count-snoc (λ q. eqb (get_or c q 0) 2) (take i ps) p ∙ rw (eq-eqb _ _ e, count)

  pub twos-same : (get_or c p 0 ≡ 2 → ⊥) → twos c (take (i + 1) ps) ≡ twos c (take i ps)
  unfolding twos
  twos-same e = ap (twos c) next ∙ count-snoc (λ q. eqb (get_or c q 0) 2) (take i ps) p ∙ rw (ne_eqb _ _ e, count) (omega arith)

-- of a whole check
pub freed-check : (c : List ℕ) {t : List ℕ} {m n : ℕ} {starts : List ℕ} (j a w : ℕ) → Located t m n starts → j < m → a ≡ get_or starts j 0 → w ≡ get_or t (4 + j) 0
    → twos c (take w (drop a t)) ≡ twos c (check t m j)
unfolding check
freed-check c {t} j a w l h e f = ap₂ (λ (x y : ℕ). twos c (take x (drop y t))) f (e ∙ l.starts-at.each j h)
