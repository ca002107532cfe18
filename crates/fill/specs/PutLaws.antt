-- A one put into a row: what it does to the columns' counts and to the rows.
use Rattle.std.specs.Prelude.{◌≡◌, refl, false, List, [], ◌∷◌, ℕ, zero, suc, ◌<◌, ◌≤◌, eqb, length, get_or}
use Rattle.std.proofs.Common.{ap, arith}
use Rattle.lists.specs.ListLaws.{all_set, all_get_d}
use Rattle.lists.specs.Lists.{Distinct, Distinct.dnew, has, All, All.cons, count}
use Rattle.lists.specs.Tests.{eqb-self, by_bool, or_r}
use Rattle.fill.specs.Fill.{put}

-- the ones of its column are one more
pub count-put : (rows : List (List ℕ)) (r j : ℕ) → r < length rows → has j (get_or rows r []) ≡ false → count (has j) (put rows r j) ≡ suc (count (has j) rows)
count-put [] r j h e = absurd (omega arith)
count-put (x ∷ rows) zero j h e = rw (eqb-self j, e, count)
count-put (x ∷ rows) (suc r) j h e = by_bool (has j x)
    (λ t. rw (t, count) (ap suc (count-put rows r j (omega arith) e)))
    (λ t. rw (t, count) (count-put rows r j (omega arith) e))

-- no column has fewer ones than before
pub count-keeps : (rows : List (List ℕ)) (r j q : ℕ) → count (has q) rows ≤ count (has q) (put rows r j)
count-keeps [] r j q = omega arith
count-keeps (x ∷ rows) zero j q = by_bool (has q x)
    (λ t. rw (or_r (eqb q j) (has q x) t, t, count) (omega arith))
    (λ t. by_bool (eqb q j) (λ u. rw (u, t, count) (omega arith)) (λ u. rw (u, t, count) (omega arith)))
count-keeps (x ∷ rows) (suc r) j q = let ih = count-keeps rows r j q in by_bool (has q x)
    (λ t. rw (t, count) (omega arith))
    (λ t. rw (t, count) ih)

-- its row is one longer
pub length-put : (rows : List (List ℕ)) (r j : ℕ) → r < length rows → length (get_or (put rows r j) r []) ≡ suc (length (get_or rows r []))
length-put [] r j h = absurd (omega arith)
length-put (x ∷ rows) zero j h = refl
length-put (x ∷ rows) (suc r) j h = length-put rows r j (omega arith)

-- no row is shorter than before
pub length-keeps : (rows : List (List ℕ)) (r j i : ℕ) → length (get_or rows i []) ≤ length (get_or (put rows r j) i [])
length-keeps [] r j i = omega arith
length-keeps (x ∷ rows) zero j zero = omega arith
length-keeps (x ∷ rows) zero j (suc i) = omega arith
length-keeps (x ∷ rows) (suc r) j zero = omega arith
length-keeps (x ∷ rows) (suc r) j (suc i) = length-keeps rows r j i

-- a row of different source places
abbrev pub Row : ℕ → List ℕ → Type 0
Row k r = Distinct r × All (λ p. p < k) r

-- still so
pub row_put : {k : ℕ} {rows : List (List ℕ)} → All (Row k) rows → (r j : ℕ) → r < length rows → j < k → has j (get_or rows r []) ≡ false → All (Row k) (put rows r j)
row_put {k} {rows} a r j h l e = let g = all_get_d a r h in all_set a r (j ∷ get_or rows r []) (dnew e g.0, cons l g.1)
