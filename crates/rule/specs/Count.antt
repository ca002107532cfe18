-- How many add steps and how many clear steps each part of the list has.
use Rattle.std.specs.Prelude.{◌≡◌, refl, Bool, true, false, not, List, [], ◌∷◌, ◌++◌, ℕ, suc, ◌+◌, ◌*◌, ◌≤◌, eqb, length}
use Rattle.std.proofs.Common.{ap, arith, length-append}
use Rattle.std.proofs.lemmas.Bool.{false≢true}
use Rattle.std.proofs.lemmas.List.{length-map}
use Rattle.lists.specs.ListLaws.{filter-less}
use Rattle.lists.specs.Tests.{eqb_comm, by_bool}
use Rattle.lists.specs.Lists.{has, filter, minus, All, All.nil, All.cons}
use Rattle.table.specs.Table.{ones}
use Rattle.plan.specs.declared.Step.{Step}
use Rattle.plan.specs.declared.Step.TheVariants.{Clear, Add}
use Rattle.plan.specs.Step.{add_steps}
use Rattle.rule.specs.Rule.{Solved, clear_and_add, solving_steps, scratch_steps, slots_named, fitting_steps}

-- ---- add steps
pub count-append : (xs ys : List Step) → add_steps (xs ++ ys) ≡ add_steps xs + add_steps ys
count-append [] ys = omega arith
count-append (Clear to ∷ xs) ys = count-append xs ys
count-append (Add to from ∷ xs) ys = let h = count-append xs ys in omega arith

-- a slot cleared and filled
pub count-fill : (to : ℕ) (c : List ℕ) → add_steps (clear_and_add to c) ≡ length c
count-fill to [] = refl
count-fill to (p ∷ c) = ap suc (count-fill to c)

-- a check without its own place is shorter
minus-own : (p : ℕ) (F c : List ℕ) → has p c ≡ true → suc (length (minus c (p ∷ F))) ≤ length c
minus-own p F [] h = absurd (false≢true h)
minus-own p F (q ∷ c) h = by_bool (eqb p q)
    (λ e. let b = filter-less (λ x. not (has x (p ∷ F))) c in rw (eqb_comm q p, e) (omega arith))
    (λ e. let b = minus-own p F c (rw e at h) in by_bool (not (has q (p ∷ F))) (λ t. rw (t, filter) (omega arith)) (λ t. rw (t, filter) (omega arith)))

-- the ones of the solved checks
abbrev pub solved_ones : List Solved → ℕ
solved_ones [] = 0
solved_ones (t ∷ ts) = length t.check + solved_ones ts

-- a pass over the solved checks
pub count-solving : (F : List ℕ) {ts : List Solved} → All (λ t. has t.own t.check ≡ true) ts → add_steps (solving_steps F ts) + length ts ≤ solved_ones ts
count-solving F nil = omega arith
count-solving F (cons {x = t} {l = ts} h hs) =
    let ih = count-solving F hs in
    let b = minus-own t.own F t.check h in
    rw (count-append (clear_and_add t.own (minus t.check (t.own ∷ F))) (solving_steps F ts), count-fill t.own (minus t.check (t.own ∷ F))) (omega arith)

-- the checks set aside
pub count-scratch : (i : ℕ) (F : List ℕ) (cs : List (List ℕ)) → add_steps (scratch_steps i F cs) ≤ ones cs
count-scratch i F [] = omega arith
count-scratch i F (c ∷ cs) =
    let ih = count-scratch (suc i) F cs in
    let b = filter-less (λ x. not (has x F)) c in
    rw (count-append (clear_and_add i (minus c F)) (scratch_steps (suc i) F cs), count-fill i (minus c F)) (omega arith)

named-le : (i : ℕ) (m : List Bool) → length (slots_named i m) ≤ length m
named-le i [] = omega arith
named-le i (true ∷ m) = let h = named-le (suc i) m in omega arith
named-le i (false ∷ m) = let h = named-le (suc i) m in omega arith

-- the fitted places
pub count-fitting : (n g : ℕ) (inv : ℕ → List Bool) {fs : List ℕ} → All (λ f. length (inv f) ≡ g) fs → add_steps (fitting_steps n inv fs) ≤ length fs * g
count-fitting n g inv nil = omega arith
count-fitting n g inv (cons {x = f} {l = fs} h hs) =
    let ih = count-fitting n g inv hs in
    let b = named-le n (inv f) in
    rw (count-append (clear_and_add f (slots_named n (inv f))) (fitting_steps n inv fs), count-fill f (slots_named n (inv f))) (omega arith)

-- ---- each part has one clear step for each solved check, scratch slot or fitted place
filled : (to : ℕ) (c : List ℕ) (xs : List Step) (k : ℕ) → length xs ≡ add_steps xs + k → length (clear_and_add to c ++ xs) ≡ add_steps (clear_and_add to c ++ xs) + suc k
filled to c xs k h =
    let a = length-append (clear_and_add to c) xs in
    let b = count-append (clear_and_add to c) xs in
    let d = count-fill to c in
    let e = length-map c (Add to) in
    omega arith

pub solving-clears : (X : List ℕ) (us : List Solved) → length (solving_steps X us) ≡ add_steps (solving_steps X us) + length us
solving-clears X [] = refl
solving-clears X (u ∷ us) = filled u.own (minus u.check (u.own ∷ X)) (solving_steps X us) (length us) (solving-clears X us)

pub scratch-clears : (i : ℕ) (X : List ℕ) (cs : List (List ℕ)) → length (scratch_steps i X cs) ≡ add_steps (scratch_steps i X cs) + length cs
scratch-clears i X [] = refl
scratch-clears i X (c ∷ cs) = filled i (minus c X) (scratch_steps (suc i) X cs) (length cs) (scratch-clears (suc i) X cs)

pub fitting-clears : (n : ℕ) (inv : ℕ → List Bool) (fs : List ℕ) → length (fitting_steps n inv fs) ≡ add_steps (fitting_steps n inv fs) + length fs
fitting-clears n inv [] = refl
fitting-clears n inv (f ∷ fs) = filled f (slots_named n (inv f)) (fitting_steps n inv fs) (length fs) (fitting-clears n inv fs)
