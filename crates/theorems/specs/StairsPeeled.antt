-- A staircase is peeled from its last check to its first; none is set aside, whatever the choice of checks to set aside.
use Rattle.std.specs.Prelude.{◌≡◌, refl, Bool, true, false, List, [], ◌∷◌, ◌++◌, ℕ, zero, suc, ◌+◌, ◌<◌, ◌≤◌, eqb, length}
use Rattle.std.proofs.Common.{sym, ap, ap₂, ◌∙◌, subst, append_assoc, append-nil, arith, length-append}
use Rattle.std.proofs.Math.Option.{some}
use Rattle.lists.specs.Lists.{highest, rev, has, All, All.nil, All.cons, count}
use Rattle.lists.specs.ListLaws.{all_snoc}
use Rattle.lists.specs.Tests.{eqb-true, eqb-false, by_bool}
use Rattle.staircase.specs.Stairs.{stair, stairs_from, staircase}
use Rattle.rule.specs.Choices.{first-at, without_at}
use Rattle.rule.specs.Rule.{Choice, in_one_only, peel_by, PeelEvent.took, Solved, solved_of, set_aside_of}
use Rattle.theorems.specs.StairsKept.{Sources, has-stair, has-own}

-- ---- a list with one check more at its end
-- no check but the last passes: it is counted once
count-last : (f : List ℕ → Bool) {L : List (List ℕ)} (c : List ℕ) → All (λ d. f d ≡ false) L → f c ≡ true → count f (L ++ (c ∷ [])) ≡ 1
count-last f c nil h = rw (h, count)
count-last f c (cons e a) h = rw (e, count) (count-last f c a h)

-- a test that none passes
pub count_no : (f : List ℕ → Bool) {L : List (List ℕ)} → All (λ d. f d ≡ false) L → count f L ≡ 0
count_no f nil = refl
count_no f (cons e a) = rw (e, count) (count_no f a)

-- the highest place that passes, where none above it does
pub highest-at : (n : ℕ) (f : ℕ → Bool) (q : ℕ) → q < n → f q ≡ true → ((p : ℕ) → q < p → f p ≡ false) → highest n f ≡ some q
highest-at zero f q h t a = absurd (omega arith)
highest-at (suc n) f q h t a = by_bool (eqb q n)
    (λ e. let z = eqb-true q n e in let u : f n ≡ true = ap f (sym z) ∙ t in rw (u, highest) (ap some (sym z)))
    (λ e. let z = eqb-false q n e in rw (a n (omega arith), highest) (highest-at n f q (omega arith) t a))

-- ---- the first j checks of a staircase, the last one apart
pub data Stairs (k : ℕ) : ℕ → List (List ℕ) → Type 0 where
  none : Stairs k 0 []
  more : {j : ℕ} {L : List (List ℕ)} {l : List ℕ} → Stairs k j L → All (λ p. p < k) l → Stairs k (suc j) (L ++ ((l ++ stair k j) ∷ []))

-- a staircase is one
stairs-on : (k : ℕ) {j : ℕ} {L : List (List ℕ)} → Stairs k j L → {ls : List (List ℕ)} → Sources k ls → Stairs k (j + length ls) (L ++ stairs_from k j ls)
stairs-on k {j} {L} s nil = let z : j ≡ j + 0 = omega arith in subst (λ x. Stairs k x (L ++ [])) z (rw (append-nil L) s)
stairs-on k {j} {L} s (cons {x = l} {l = ls} a b) =
    let z : suc j + length ls ≡ j + suc (length ls) = omega arith in
    subst (λ x. Stairs k x (L ++ ((l ++ stair k j) ∷ stairs_from k (suc j) ls))) z
    (subst (Stairs k (suc j + length ls)) (append_assoc L ((l ++ stair k j) ∷ []) (stairs_from k (suc j) ls)) (stairs-on k {j = suc j} {L = L ++ ((l ++ stair k j) ∷ [])} (more s a) b))

-- its checks have no place from k + j on
stairs-low : {k j : ℕ} {L : List (List ℕ)} → Stairs k j L → (q : ℕ) → k + j ≤ q → All (λ c. has q c ≡ false) L
stairs-low none q h = nil
stairs-low {k} (more {j = j} s a) q h = all_snoc (stairs-low s q (omega arith)) (has-stair k j q a (omega arith))

-- there are j of them
stairs-length : {k j : ℕ} {L : List (List ℕ)} → Stairs k j L → length L ≡ j
stairs-length none = refl
stairs-length (more {j = j} {L = L} {l = l} s a) = length-append L _ ∙ (let e = stairs-length s in omega arith)

-- ---- the peeling
-- the checks solved, in order, each with its own place: p, p + 1 and so on
abbrev pub owned_from : ℕ → List (List ℕ) → List Solved
owned_from p [] = []
owned_from p (c ∷ cs) = record { own = p; check = c } ∷ owned_from (suc p) cs

-- with one check more at the end
owned-snoc : (p : ℕ) (L : List (List ℕ)) (c : List ℕ) → owned_from p (L ++ (c ∷ [])) ≡ owned_from p L ++ (record { own = p + length L; check = c } ∷ [])
owned-snoc p [] c = let z : p ≡ p + 0 = omega arith in ap (λ x. record { own = x; check = c } ∷ []) z
owned-snoc p (d ∷ L) c = let z : suc p + length L ≡ p + suc (length L) = omega arith in
    ap (λ x. record { own = p; check = d } ∷ x) (owned-snoc (suc p) L c ∙ ap (λ x. owned_from (suc p) L ++ (record { own = x; check = c } ∷ [])) z)

-- the last check goes first, with the highest place
peel-last : (choice : Choice) {k j : ℕ} {L : List (List ℕ)} {l : List ℕ} (n : ℕ) → Stairs k j L → All (λ p. p < k) l → k + j < n
    → peel_by choice (suc j) n (L ++ ((l ++ stair k j) ∷ [])) ≡ took (k + j) (l ++ stair k j) ∷ peel_by choice j n L
peel-last choice {k} {j} {L} {l} n s a h =
    let c = l ++ stair k j in
    let M = L ++ (c ∷ []) in
    let low = stairs-low s (k + j) (omega arith) in
    let own = has-own k j a in
    let top : highest n (in_one_only M) ≡ some (k + j) = highest-at n (in_one_only M) (k + j) h
    (ap (λ x. eqb x 1) (count-last (has (k + j)) c low own))
    (λ p g. ap (λ x. eqb x 1) (count_no (has p) (all_snoc (stairs-low s p (omega arith)) (has-stair k j p a g)))) in
    rw (top, peel_by) (ap₂ (λ x y. took (k + j) x ∷ peel_by choice j n y) (first-at (has (k + j)) c [] low own) (without_at (has (k + j)) c [] low own ∙ append-nil L))

-- none is set aside
pub none-aside : (choice : Choice) {k j : ℕ} {L : List (List ℕ)} (n : ℕ) → Stairs k j L → k + j ≤ n → set_aside_of (peel_by choice j n L) ≡ []
none-aside choice n none h = refl
none-aside choice n (more s a) h = ap set_aside_of (peel-last choice n s a (omega arith)) ∙ none-aside choice n s (omega arith)

-- check i is solved i-th, with its own place k + i
pub solved-stairs : (choice : Choice) {k j : ℕ} {L : List (List ℕ)} (n : ℕ) → Stairs k j L → k + j ≤ n → rev (solved_of (peel_by choice j n L)) ≡ owned_from k L
solved-stairs choice n none h = refl
solved-stairs choice {k} n (more {j = j} {L = L} {l = l} s a) h =
    let c = l ++ stair k j in
    ap (λ x. rev (solved_of x)) (peel-last choice n s a (omega arith))
    ∙ ap₂ (λ x y. x ++ (record { own = k + y; check = c } ∷ [])) (solved-stairs choice n s (omega arith)) (sym (stairs-length s))
    ∙ sym (owned-snoc k L c)

-- the whole staircase
pub stairs-all : (k : ℕ) {ls : List (List ℕ)} → Sources k ls → Stairs k (length ls) (staircase k ls)
stairs-all k {ls} a = let z : 0 + length ls ≡ length ls = omega arith in subst (λ x. Stairs k x (staircase k ls)) z (stairs-on k none a)
