-- The live checks by their flags, the first that is worth most among them, and what a check is worth by the counts.
use Rattle.std.specs.Prelude.{true, false, cond, List, [], ◌∷◌, ℕ, zero, suc, ◌+◌, get_or, eqb, leb}
use Rattle.lists.specs.Lists.{count}

-- the live ones among c numbers from i
unfoldable pub lives : List ℕ → ℕ → ℕ → List ℕ
lives live i zero = []
lives live i (suc c) = cond (eqb (get_or live i 0) 1) (i ∷ lives live (suc i) c) (lives live (suc i) c)

-- how many of the places ps lie in exactly two live checks, by the counts c
unfoldable pub twos : List ℕ → List ℕ → ℕ
twos c ps = count (λ p. eqb (get_or c p 0) 2) ps

-- the first that is worth most so far is b, all before are worth less than w
unfoldable pub most_from : (ℕ → ℕ) → ℕ → ℕ → List ℕ → ℕ
most_from f b w [] = b
most_from f b w (j ∷ JS) = elim (leb w (f j)) [ true ↦ most_from f j (f j + 1) JS | false ↦ most_from f b w JS ]
