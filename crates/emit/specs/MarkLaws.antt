-- Marks as lists of places: which places are marked, and that steps by marks are steps by the list of the marked places.
use Rattle.std.specs.Prelude.{◌≡◌, refl, Bool, true, false, ◌||◌, List, [], ◌∷◌, ◌++◌, ℕ, zero, suc, ◌+◌, ◌<◌, ◌≤◌, eqb, ltb, length, get_or, set, take, replicate}
use Rattle.std.proofs.Common.{sym, ap, ap₂, ◌∙◌, arith, eq-eqb, ne_eqb, ltb-true, ltb-false, length-set, get_or-set_same, get_or-set_other, get_or-take, length-take-le}
use Rattle.std.proofs.Math.ListN.{get_or-eq_default}
use Rattle.lists.specs.Tests.{eqb-true, eqb-false, by_bool}
use Rattle.lists.specs.ListLaws.{has-append, has_kept, get_d-zeros, has-filter}
use Rattle.lists.specs.Lists.{has, minus, from}
use Rattle.rule.specs.Rule.{Solved, clear_and_add, solving_steps, scratch_steps}
use Rattle.emit.specs.Emit.{marked, marking, Below}

-- ---- one place and the rest
pub minus-out : (p : ℕ) (c X : List ℕ) → has p X ≡ true → minus (p ∷ c) X ≡ minus c X
minus-out p c X h = rw h

pub minus-in : (p : ℕ) (c X : List ℕ) → has p X ≡ false → minus (p ∷ c) X ≡ p ∷ minus c X
minus-in p c X h = rw h

-- ---- only membership counts
pub minus-same : (c X Y : List ℕ) → ((p : ℕ) → has p X ≡ has p Y) → minus c X ≡ minus c Y
minus-same [] X Y h = refl
minus-same (q ∷ c) X Y h = let ih = minus-same c X Y h in by_bool (has q X)
    (λ e. let f : has q Y ≡ true = sym (h q) ∙ e in rw (e, f) ih)
    (λ e. let f : has q Y ≡ false = sym (h q) ∙ e in rw (e, f) (ap (λ l. q ∷ l) ih))

pub solving-same : (X Y : List ℕ) (us : List Solved) → ((p : ℕ) → has p X ≡ has p Y) → solving_steps X us ≡ solving_steps Y us
solving-same X Y [] h = refl
solving-same X Y (u ∷ us) h = ap₂ (λ c r. clear_and_add u.own c ++ r)
    (minus-same u.check (u.own ∷ X) (u.own ∷ Y) (λ p. ap (λ b. eqb p u.own || b) (h p))) (solving-same X Y us h)

pub scratch-same : (i : ℕ) (X Y : List ℕ) (cs : List (List ℕ)) → ((p : ℕ) → has p X ≡ has p Y) → scratch_steps i X cs ≡ scratch_steps i Y cs
scratch-same i X Y [] h = refl
scratch-same i X Y (c ∷ cs) h = ap₂ (λ c r. clear_and_add i c ++ r) (minus-same c X Y h) (scratch-same (suc i) X Y cs h)

-- ---- which places are marked
has-from : (i c p : ℕ) → i ≤ p → p < i + c → has p (from i c) ≡ true
unfolding from
has-from i zero p a b = absurd (omega arith)
has-from i (suc c) p a b = by_bool (eqb p i) (λ e. rw e) (λ e. let n = eqb-false p i e in rw e (has-from (suc i) c p (omega arith) (omega arith)))

pub has-marked : (marks : List ℕ) (p : ℕ) → has p (marked marks) ≡ eqb (get_or marks p 0) 1
unfolding marked
has-marked marks p = by_bool (eqb (get_or marks p 0) 1)
    (λ e. has_kept (λ q. eqb (get_or marks q 0) 1) p (from 0 (length marks)) e (has-from 0 (length marks) p (omega arith) (inside e)) ∙ sym e)
    (λ e. has-filter (λ q. eqb (get_or marks q 0) 1) p (from 0 (length marks)) e ∙ sym e)
  where
    inside : eqb (get_or marks p 0) 1 ≡ true → p < 0 + length marks
    inside e = by_bool (ltb p (length marks)) (λ l. let k = ltb-true p (length marks) l in omega arith)
        (λ l. let k = ltb-false p (length marks) l in let one = eqb-true (get_or marks p 0) 1 e in let z = get_or-eq_default marks 0 k in absurd (omega arith))

pub none-marked : (k p : ℕ) → has p (marked (replicate k 0)) ≡ has p []
none-marked k p = has-marked (replicate k 0) p ∙ ne_eqb (get_or (replicate k 0) p 0) 1 (λ e. let z = get_d-zeros k p in omega arith)

set-one : (m : List ℕ) (q p : ℕ) → q < length m → eqb (get_or (set m q 1) p 0) 1 ≡ (eqb p q || eqb (get_or m p 0) 1)
set-one m q p h = by_bool (eqb p q)
    (λ e. let s : p ≡ q = eqb-true p q e in rw e (eq-eqb (get_or (set m q 1) p 0) 1 (ap (λ x. get_or (set m q 1) x 0) s ∙ get_or-set_same m q 1 0 h)))
    (λ e. rw (e, get_or-set_other m q p 1 0 (eqb-false p q e)))

or-move : (a b c : Bool) → (b || (a || c)) ≡ ((a || b) || c)
or-move true true c = refl
or-move true false c = refl
or-move false true c = refl
or-move false false c = refl

marked-after : (ps m : List ℕ) (p : ℕ) → ((i : ℕ) → i < length ps → get_or ps i 0 < length m) → eqb (get_or (marking m ps) p 0) 1 ≡ (has p ps || eqb (get_or m p 0) 1)
unfolding marking
marked-after [] m p h = refl
marked-after (q ∷ ps) m p h =
    marked-after ps (set m q 1) p (λ i l. let b = h (suc i) (omega arith) in simp length-set b)
    ∙ ap (λ b. has p ps || b) (set-one m q p (h 0 (omega arith))) ∙ or-move (eqb p q) (has p ps) (eqb (get_or m p 0) 1)

below-taken : {n : ℕ} {ps : List ℕ} {k : ℕ} → Below n ps k → (i : ℕ) → i < length (take k ps) → get_or (take k ps) i 0 < n
below-taken {n} {ps} {k} b i h = let l = length-take-le k ps b.room in rw (get_or-take k ps i 0 (omega arith)) (b.each i (omega arith))

-- the places marked before, and those marked now
pub marked_more : (m ps : List ℕ) (k : ℕ) → Below (length m) ps k → (X : List ℕ) → ((p : ℕ) → has p (marked m) ≡ has p X) → (p : ℕ) → has p (marked (marking m (take k ps))) ≡ has p (take k ps ++ X)
marked_more m ps k b X h p =
    has-marked (marking m (take k ps)) p ∙ marked-after (take k ps) m p (below-taken b)
    ∙ ap (λ r. has p (take k ps) || r) (sym (has-marked m p) ∙ h p) ∙ sym (has-append p (take k ps) X)

pub marking-length : (m ps : List ℕ) → length (marking m ps) ≡ length m
unfolding marking
marking-length m [] = refl
marking-length m (p ∷ ps) = marking-length (set m p 1) ps ∙ length-set m p 1

-- below a higher bound
pub below_more : {m n : ℕ} {ps : List ℕ} {k : ℕ} → Below m ps k → m ≤ n → Below n ps k
below_more b h = record { room = b.room; each = λ i l. let e = b.each i l in omega arith }
