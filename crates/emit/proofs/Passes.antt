-- The steps of the solved checks, of the checks set aside and of the fitted places, one after the other.
use mathlib.Core.Path.{◌≡◌, refl, sym, ap, ap₂, ◌∙◌, subst}
use mathlib.Core.List.{List, [], ◌∷◌, ◌++◌, map}
use Prim.Native.Nat.{ℕ, zero, suc, ◌+◌, ◌-◌, ◌<◌, ◌≤◌}
use native.Mathlib.Numerals.{add-one}
use native.Mathlib.Omega.{arith}
use lib.ListN.{length, get_or, take, drop, drop_of_length-le, replicate}
use lib.Seq.{drop-cons, get_or-take, length-take-le}
use Rattle.lists.specs.Lists.{rev, has, minus, All, All.nil, All.cons}
use Rattle.lists.specs.ListLaws.{all_map}
use Rattle.lists.specs.Tests.{eqb-lt, by_bool}
use Rattle.table.specs.Accepted.{Accepted, each-places}
use Rattle.table.specs.Checks.{check}
use Rattle.table.specs.SumLaws.{places-low}
use Rattle.table.specs.Table.{most_places, places, size, number}
use Rattle.plan.specs.Step.{pack}
use Rattle.rule.specs.Buffers.{solved, mask_bits}
use Rattle.rule.specs.Rule.{Solved, clear_and_add, solving_steps, scratch_steps, slots_named}
use Rattle.emit.specs.Emit.{marked, solved_in, aside_in, fitting_rows}
use Rattle.emit.specs.MarkLaws.{solving-same, none-marked}
use Rattle.emit.specs.PackedLaws.{packed-append}

-- ---- a check
-- its places are below n
pub check-low : {t : List ℕ} {m n s : ℕ} → Accepted t m n s → (j : ℕ) → j < m → All (λ p. p < n) (check t m j)
unfolding check
check-low a j h = places-low (each-places _ _ _ _ a j h)

-- a slot above its places is none of them
minus-above : (to : ℕ) {c : List ℕ} (X : List ℕ) → All (λ p. p < to) c → minus c (to ∷ X) ≡ minus c X
minus-above to X nil = refl
minus-above to X (cons {x = p} h a) =
    let ih = minus-above to X a in
    rw (eqb-lt p to h) (by_bool (has p X) (λ e. rw e ih) (λ e. rw e (ap (λ l. p ∷ l) ih)))

-- ---- the solved checks, the last taken first
rev-snoc : (l : List Solved) (x : Solved) → rev (l ++ (x ∷ [])) ≡ x ∷ rev l
rev-snoc [] x = refl
rev-snoc (y ∷ l) x = ap (λ r. r ++ (y ∷ [])) (rev-snoc l x)

abbrev pub solves : List ℕ → List ℕ → List ℕ → List ℕ → ℕ → List ℕ
solves skip t order owns i = map pack (solving_steps (marked skip) (rev (solved_in t order owns i)))

abbrev pub one : List ℕ → List ℕ → ℕ → ℕ → List ℕ
one skip t j to = map pack (clear_and_add to (minus (check t (number t) j) (to ∷ marked skip)))

pub solves-none : (skip t order owns : List ℕ) → solves skip t order owns 0 ≡ []
unfolding solved
solves-none skip t order owns = refl

pub solves-next : (skip t order owns : List ℕ) (i : ℕ) → 0 < i
    → solves skip t order owns i ≡ one skip t (get_or order (i - 1) 0) (get_or owns (i - 1) 0) ++ solves skip t order owns (i - 1)
unfolding solved
solves-next skip t order owns zero h = absurd (omega arith)
solves-next skip t order owns (suc i) h =
    let e : suc i - 1 ≡ i = omega arith in
    subst (λ k. solves skip t order owns (suc i) ≡ one skip t (get_or order k 0) (get_or owns k 0) ++ solves skip t order owns k) (sym e) (ap (λ l. map pack (solving_steps (marked skip) l)) (rev-snoc (solved_in t order owns i) _) ∙ packed-append (clear_and_add (get_or owns i 0) (minus (check t (number t) (get_or order i 0)) (get_or owns i 0 ∷ marked skip))) _)

-- ---- the checks set aside
abbrev pub scratches : List ℕ → List ℕ → List ℕ → ℕ → ℕ → List ℕ
scratches skip t aside g i = map pack (scratch_steps (places t + i) (marked skip) (map (check t (number t)) (drop i (take g aside))))

pub scratches-all : (skip t aside : List ℕ) (g : ℕ) → map pack (scratch_steps (places t) (marked skip) (aside_in t aside g)) ≡ scratches skip t aside g 0
scratches-all skip t aside g = let e : places t ≡ places t + 0 = omega arith in ap (λ n. map pack (scratch_steps n (marked skip) (aside_in t aside g))) e

pub scratches-none : (skip t aside : List ℕ) (g : ℕ) → g ≤ length aside → scratches skip t aside g g ≡ []
scratches-none skip t aside g h = let l = length-take-le g aside h in
    ap (λ x. map pack (scratch_steps (places t + g) (marked skip) (map (check t (number t)) x))) (drop_of_length-le (take g aside) {i = g} (omega arith))

pub scratches-next : (skip t aside : List ℕ) (g i : ℕ) → Accepted t (number t) (places t) (size t) → g ≤ length aside → i < g → get_or aside i 0 < number t
    → scratches skip t aside g i ≡ one skip t (get_or aside i 0) (places t + i) ++ scratches skip t aside g (i + 1)
scratches-next skip t aside g i c r h k =
    let l = length-take-le g aside r in
    let j = get_or aside i 0 in
    let X = marked skip in
    let to = places t + i in
    let d : drop i (take g aside) ≡ j ∷ drop (i + 1) (take g aside) =
    drop-cons (take g aside) i 0 (omega arith) ∙ ap₂ (λ x k. x ∷ drop k (take g aside)) (get_or-take g aside i 0 h) (sym (add-one i)) in
    let m : minus (check t (number t) j) X ≡ minus (check t (number t) j) (to ∷ X) =
    sym (minus-above to X (all_map (λ p l. omega arith) (check-low c j k))) in
    let s : suc to ≡ places t + (i + 1) = omega arith in
    let rest = map (check t (number t)) (drop (i + 1) (take g aside)) in
    ap (λ x. map pack (scratch_steps to X (map (check t (number t)) x))) d
    ∙ packed-append (clear_and_add to (minus (check t (number t) j) X)) (scratch_steps (suc to) X rest)
    ∙ ap₂ (λ x n. map pack (clear_and_add to x) ++ map pack (scratch_steps n X rest)) m s

-- ---- the fitted places
abbrev pub fits : ℕ → ℕ → List ℕ → List ℕ → ℕ → List ℕ
fits n g fitted rows j = map pack (fitting_rows n g fitted rows j (g - j))

pub fits_all : (n g : ℕ) (fitted rows : List ℕ) → map pack (fitting_rows n g fitted rows 0 g) ≡ fits n g fitted rows 0
fits_all n g fitted rows = let e : g ≡ g - 0 = omega arith in ap (λ c. map pack (fitting_rows n g fitted rows 0 c)) e

pub fits-none : (n g : ℕ) (fitted rows : List ℕ) → fits n g fitted rows g ≡ []
unfolding fitting_rows
fits-none n g fitted rows = let e : g - g ≡ 0 = omega arith in ap (λ c. map pack (fitting_rows n g fitted rows g c)) e

pub fits_next : (n g : ℕ) (fitted rows : List ℕ) (j : ℕ) → j < g
    → fits n g fitted rows j ≡ map pack (clear_and_add (get_or fitted j 0) (slots_named n (mask_bits g (get_or rows j 0)))) ++ fits n g fitted rows (j + 1)
unfolding fitting_rows
fits_next n g fitted rows j h =
    let e : g - j ≡ suc (g - (j + 1)) = omega arith in
    ap (λ c. map pack (fitting_rows n g fitted rows j c)) e
    ∙ packed-append (clear_and_add (get_or fitted j 0) (slots_named n (mask_bits g (get_or rows j 0)))) _
    ∙ ap (λ k. map pack (clear_and_add (get_or fitted j 0) (slots_named n (mask_bits g (get_or rows j 0)))) ++ map pack (fitting_rows n g fitted rows k (g - (j + 1)))) (sym (add-one j))

-- where nothing is marked no place is left out
pub whole_is : (us : List Solved) → solving_steps (marked (replicate most_places 0)) us ≡ solving_steps [] us
whole_is us = solving-same (marked (replicate most_places 0)) [] us (none-marked most_places)
