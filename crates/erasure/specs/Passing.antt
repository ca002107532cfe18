-- How many places of a check pass a test: none, exactly one, and no more than pass a weaker test.
use Rattle.std.specs.Prelude.{◌≡◌, refl, Bool, true, false, cond, List, [], ◌∷◌, ℕ, suc, ◌<◌, ◌≤◌, eqb, length, get_or}
use Rattle.std.proofs.Common.{sym, ap, ap₂, subst, ◌∙◌, true≢false, arith}
use Rattle.std.proofs.Math.Nat.{suc_inj}
use Rattle.lists.specs.ListLaws.{all_map}
use Rattle.lists.specs.Lists.{bxor, par, filter, All, All.nil, All.cons}
use Rattle.lists.specs.Tests.{eqb-true, eqb-self, by_bool}

pub filter-mono : (f g : ℕ → Bool) → ((p : ℕ) → f p ≡ true → g p ≡ true) → (c : List ℕ) → length (filter f c) ≤ length (filter g c)
filter-mono f g h [] = omega arith
filter-mono f g h (x ∷ c) = let ih = filter-mono f g h c in by_bool (f x)
    (λ e. rw (e, filter, h x e) (omega arith))
    (λ e. by_bool (g x) (λ k. rw (e, filter, k) (omega arith)) (λ k. rw (e, filter, k) (omega arith)))

-- none passes
pub none_passes : (f : ℕ → Bool) (c : List ℕ) → length (filter f c) ≡ 0 → All (λ p. f p ≡ false) c
none_passes f [] l = nil
none_passes f (x ∷ c) l = by_bool (f x)
    (λ t. absurd (omega (arith, rw (t, filter) at l)))
    (λ t. cons t (none_passes f c (rw (t, filter) at l)))

-- the first that passes, if one does
pub first_passes : (f : ℕ → Bool) (c : List ℕ) → 0 < length (filter f c) → f (get_or (filter f c) 0 0) ≡ true
first_passes f [] l = absurd (omega arith)
first_passes f (x ∷ c) l = by_bool (f x) (λ t. rw (t, filter) t) (λ t. rw (t, filter) (first_passes f c (rw (t, filter) at l)))

-- ---- exactly one passes f
-- where g is stronger, that one passes g or none does
pub filter-one : (f g : ℕ → Bool) (c : List ℕ) → length (filter f c) ≡ 1 → ((p : ℕ) → g p ≡ true → f p ≡ true) → length (filter g c) ≡ cond (g (get_or (filter f c) 0 0)) 1 0
filter-one f g [] l h = absurd (omega arith)
filter-one f g (x ∷ c) l h = by_bool (f x)
    (λ t. let b = filter-mono g f h c in
    let l' : suc (length (filter f c)) ≡ 1 = rw (t, filter) at l in
    by_bool (g x) (λ k. rw (t, filter, k) (omega arith)) (λ k. rw (t, filter, k) (omega arith)))
    (λ t. by_bool (g x) (λ k. absurd (true≢false (sym (h x k) ∙ t)))
    (λ k. rw (t, filter, k) (filter-one f g c (rw (t, filter) at l) h)))

-- what does not pass is another place
apart : (f : ℕ → Bool) (x : ℕ) → f x ≡ true → {c : List ℕ} → All (λ p. f p ≡ false) c → par x c ≡ false
apart f x t nil = refl
apart f x t (cons {x = p} {l = c} h a) = ap₂ bxor (by_bool (eqb x p) (λ e. absurd (true≢false (sym t ∙ ap f (eqb-true x p e) ∙ h))) (λ e. e)) (apart f x t a)

-- it stands there once, and no other passes
pub one_passes : (f : ℕ → Bool) (c : List ℕ) → length (filter f c) ≡ 1
    → (par (get_or (filter f c) 0 0) c ≡ true) × All (λ p. eqb p (get_or (filter f c) 0 0) ≡ false → f p ≡ false) c
one_passes f [] l = absurd (omega arith)
one_passes f (x ∷ c) l = by_bool (f x)
    (λ t. let a = none_passes f c (suc_inj (rw (t, filter) at l)) in
    let k : filter f (x ∷ c) ≡ x ∷ filter f c = rw (t, filter) refl in
    subst (λ v. (par (get_or v 0 0) (x ∷ c) ≡ true) × All (λ p. eqb p (get_or v 0 0) ≡ false → f p ≡ false) (x ∷ c)) (sym k)
    (ap₂ bxor (eqb-self x) (apart f x t a), cons (λ e. absurd (true≢false (sym (eqb-self x) ∙ e))) (all_map (λ p h e. h) a)))
    (λ t. let l' : length (filter f c) ≡ 1 = rw (t, filter) at l in
    let r = one_passes f c l' in
    let q = get_or (filter f c) 0 0 in
    let ne : eqb q x ≡ false = by_bool (eqb q x) (λ e. absurd (true≢false (sym (first_passes f c (omega arith)) ∙ ap f (eqb-true q x e) ∙ t))) (λ e. e) in
    let k : filter f (x ∷ c) ≡ filter f c = rw (t, filter) refl in
    subst (λ v. (par (get_or v 0 0) (x ∷ c) ≡ true) × All (λ p. eqb p (get_or v 0 0) ≡ false → f p ≡ false) (x ∷ c)) (sym k)
    (ap₂ bxor ne r.0, cons (λ e. t) r.1))
