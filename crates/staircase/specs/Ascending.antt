-- The checks of a staircase ascend below n; the source places of a row ascend, and there are as many as it needs.
use Rattle.std.specs.Prelude.{◌≡◌, refl, true, false, ◌||◌, ◌&&◌, List, [], ◌∷◌, ◌++◌, map, ℕ, zero, suc, ◌+◌, ◌<◌, ◌≤◌, eqb, ltb, leb, length}
use Rattle.std.proofs.Common.{sym, ap, ap₂, ◌∙◌, subst, true≢false, append-nil, arith, leb-true, ltb-true, le-ltb, lt-ltb}
use Rattle.std.proofs.lemmas.Bool.{false≢true}
use Rattle.lists.specs.Lists.{Distinct.dnil, Distinct.dnew, has, filter, All, All.nil, All.cons, count}
use Rattle.lists.specs.ListLaws.{all_map, filter-append, filter-all, filter_none}
use Rattle.lists.specs.Numbers.{filter-has}
use Rattle.lists.specs.Tests.{eqb-self, eqb-true, eqb-lt, by_bool, or_l, or_r, or-false-l, and_l, and_r}
use Rattle.table.specs.Table.{rising}
use Rattle.making.specs.Sorted.{rises, rising-weak, rising-filter}
use Rattle.fill.specs.PutLaws.{Row}
use Rattle.staircase.specs.Stairs.{stair, stairs_from, sources}

-- ---- the checks
-- places below k, and then places from k on
rising-append : (n k b : ℕ) (l c : List ℕ) → b ≤ k → k ≤ n → rising k b l ≡ true → rising n k c ≡ true → rising n b (l ++ c) ≡ true
rising-append n k b [] c h g r t = rising-weak n b k c h t
rising-append n k b (p ∷ l) c h g r t =
    let e = and_l (leb b p && ltb p k) (rising k (suc p) l) r in
    let x = leb-true b p (and_l (leb b p) (ltb p k) e) in
    let y = ltb-true p k (and_r (leb b p) (ltb p k) e) in
    rises n b p (l ++ c) x (omega arith) (rising-append n k (suc p) l c y g (and_r (leb b p && ltb p k) (rising k (suc p) l) r) t)

-- the stair of a check
rising-stair : (n k i : ℕ) → k + i < n → rising n k (stair k i) ≡ true
rising-stair n k zero h = rises n k (k + 0) [] (omega arith) h refl
rising-stair n k (suc i) h = rises n k (k + i) ((k + suc i) ∷ []) (omega arith) (omega arith) (rises n (suc (k + i)) (k + suc i) [] (omega arith) h refl)

-- each check of a staircase
pub stairs-rise : (n k i : ℕ) {ls : List (List ℕ)} → k + (i + length ls) ≤ n → All (λ l. rising k 0 l ≡ true) ls → All (λ c. rising n 0 c ≡ true) (stairs_from k i ls)
stairs-rise n k i h nil = nil
stairs-rise n k i h (cons {x = l} {l = ls} r a) =
    cons (rising-append n k 0 l (stair k i) (omega arith) (omega arith) r (rising-stair n k i (omega arith))) (stairs-rise n k (suc i) (omega arith) a)

-- ---- the source places of a row
-- they ascend below k
pub sources-rise : (k : ℕ) (row : List ℕ) → rising k 0 (sources k row) ≡ true
sources-rise k row = rising-filter (λ j. has j row) k 0 k (omega arith)

-- they are the row's places below k
pub sources-has : (k j : ℕ) (row : List ℕ) → j < k → has j (sources k row) ≡ has j row
sources-has k j row h = filter-has (λ p. has p row) k j h

-- a member, so not empty
some_in : (p : ℕ) (l : List ℕ) → has p l ≡ true → 1 ≤ length l
some_in p [] h = absurd (false≢true h)
some_in p (x ∷ l) h = omega arith

-- two different members
two_in : (p q : ℕ) (l : List ℕ) → eqb p q ≡ false → has p l ≡ true → has q l ≡ true → 2 ≤ length l
two_in p q [] n a b = absurd (false≢true a)
two_in p q (x ∷ l) n a b = by_bool (eqb p x)
    (λ e. by_bool (eqb q x)
    (λ f. absurd (true≢false (sym (eqb-self p) ∙ ap (eqb p) (eqb-true p x e ∙ sym (eqb-true q x f)) ∙ n)))
    (λ f. let g = some_in q l (rw f at b) in omega arith))
    (λ e. let g = some_in p l (rw e at a) in omega arith)

-- a row of two or more has two or more source places
pub sources-two : (k : ℕ) {row : List ℕ} → Row k row → 2 ≤ length row → 2 ≤ length (sources k row)
sources-two k (dnil, a) h = absurd (omega arith)
sources-two k (dnew {x = p} {l = l} e d, a) h = second l e a h
  where
    second : (l : List ℕ) → has p l ≡ false → All (λ x. x < k) (p ∷ l) → 2 ≤ length (p ∷ l) → 2 ≤ length (sources k (p ∷ l))
    second [] e a h = absurd (omega arith)
    second (q ∷ l) e (cons x (cons y a)) h = two_in p q (sources k (p ∷ q ∷ l)) (or-false-l (eqb p q) (has p l) e)
        (sources-has k p (p ∷ q ∷ l) x ∙ or_l _ _ (eqb-self p))
        (sources-has k q (p ∷ q ∷ l) y ∙ or_r (eqb q p) _ (or_l _ _ (eqb-self q)))

-- so a check ascends
pub check-rises : (n k i : ℕ) (row : List ℕ) → k + i < n → rising n 0 (sources k row ++ stair k i) ≡ true
check-rises n k i row h = rising-append n k 0 (sources k row) (stair k i) (omega arith) (omega arith) (sources-rise k row) (rising-stair n k i h)

-- ---- the columns of a staircase
-- a source place lies in no stair
pub stair-not : (k i j : ℕ) → j < k → has j (stair k i) ≡ false
stair-not k zero j h = rw (eqb-lt j (k + 0) (omega arith))
stair-not k (suc i) j h = rw (eqb-lt j (k + i) (omega arith), eqb-lt j (k + suc i) (omega arith))

-- in a check it lies where it lies on the left side
has_left : (j : ℕ) (l c : List ℕ) → has j c ≡ false → has j (l ++ c) ≡ has j l
has_left j [] c h = h
has_left j (p ∷ l) c h = ap (λ b. eqb j p || b) (has_left j l c h)

-- so a source column has as many ones as the rows say
pub column-count : (k j i : ℕ) (rows : List (List ℕ)) → j < k → count (has j) (stairs_from k i (map (sources k) rows)) ≡ count (has j) rows
column-count k j i [] h = refl
column-count k j i (row ∷ rows) h =
    let e = has_left j (sources k row) (stair k i) (stair-not k i j h) ∙ sources-has k j row h in
    let ih = column-count k j (suc i) rows h in
    by_bool (has j row)
    (λ t. rw (e ∙ t, t, count) (ap suc ih))
    (λ t. rw (e ∙ t, t, count) ih)

-- as many checks as rows
pub stairs-count : (k i : ℕ) (ls : List (List ℕ)) → length (stairs_from k i ls) ≡ length ls
stairs-count k i [] = refl
stairs-count k i (l ∷ ls) = ap suc (stairs-count k (suc i) ls)

-- the places of a stair are no source places
stair-high : (k i : ℕ) → All (λ p. ltb p k ≡ false) (stair k i)
stair-high k zero = cons (le-ltb (k + 0) k (omega arith)) nil
stair-high k (suc i) = cons (le-ltb (k + i) k (omega arith)) (cons (le-ltb (k + suc i) k (omega arith)) nil)

-- so a check's source places are its left side
left-of : (k i : ℕ) {l : List ℕ} → All (λ p. p < k) l → filter (λ p. ltb p k) (l ++ stair k i) ≡ l
left-of k i {l} a =
    filter-append (λ p. ltb p k) l (stair k i)
    ∙ ap₂ ◌++◌ (filter-all (λ p. ltb p k) (all_map (λ p h. lt-ltb p k h) a)) (filter_none (λ p. ltb p k) (stair-high k i))
    ∙ append-nil l

pub own-sources : (k i : ℕ) {ls : List (List ℕ)} → All (λ l. All (λ p. p < k) l) ls → All (λ l. 2 ≤ length l) ls
    → All (λ c. 2 ≤ length (filter (λ p. ltb p k) c)) (stairs_from k i ls)
own-sources k i nil nil = nil
own-sources k i (cons a r) (cons h t) = cons (subst (λ x. 2 ≤ length x) (sym (left-of k i a)) h) (own-sources k (suc i) r t)
