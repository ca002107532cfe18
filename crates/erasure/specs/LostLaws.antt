-- The lost places of a map and of a check: place by place, how many, and after one is restored.
use Rattle.std.specs.Prelude.{◌≡◌, refl, true, false, cond, List, [], ◌∷◌, ◌≢◌, ℕ, zero, suc, ◌+◌, ◌-◌, ◌<◌, ◌≤◌, eqb, length, get_or, set, take, drop}
use Rattle.std.proofs.Common.{sym, ap, ◌∙◌, subst, true≢false, add-one, arith, ne_eqb, drop-cons, get_or-set_same, get_or-set_other}
use Rattle.std.proofs.lemmas.Bool.{false≢true}
use Rattle.lists.specs.Tests.{eqb-true, eqb-self, or-false-l, or-false-r, by_bool}
use Rattle.lists.specs.Lists.{Distinct, Distinct.dnil, Distinct.dnew, has}
use Rattle.table.specs.Checks.{Places}
use Rattle.erasure.specs.Restoring.{lost_places, is_lost}

-- ---- by the map's byte
pub not-lost : (map : List ℕ) (p : ℕ) → get_or map p 0 ≡ 0 → is_lost map p ≡ false
not-lost map p e = ap (λ x. eqb x 1) e

pub is_lost_lem : (map : List ℕ) (p : ℕ) → get_or map p 0 ≡ 1 → is_lost map p ≡ true
is_lost_lem map p e = ap (λ x. eqb x 1) e

-- a lost place is a place of the map
pub lost-inside : (lost : List ℕ) (p : ℕ) → is_lost lost p ≡ true → p < length lost
lost-inside [] p h = absurd (false≢true h)
lost-inside (x ∷ l) zero h = omega arith
lost-inside (x ∷ l) (suc p) h = let k = lost-inside l p h in omega arith

-- ---- how many
abbrev pub lost_in : List ℕ → ℕ
lost_in [] = 0
lost_in (x ∷ l) = elim (eqb x 1) [ true ↦ suc (lost_in l) | false ↦ lost_in l ]

pub lost-most : (l : List ℕ) → lost_in l ≤ length l
lost-most [] = omega arith
lost-most (x ∷ l) = let h = lost-most l in by_bool (eqb x 1) (λ e. rw (e, lost_in) (omega arith)) (λ e. rw (e, lost_in) (omega arith))

-- no more than in a map with these lost, and maybe others
pub lost-fewer : (few many : List ℕ) → ((p : ℕ) → is_lost few p ≡ true → is_lost many p ≡ true) → lost_in few ≤ lost_in many
lost-fewer [] many h = omega arith
lost-fewer (x ∷ l) [] h = let ih = lost-fewer l [] (λ p e. absurd (false≢true (h (suc p) e))) in by_bool (eqb x 1)
    (λ e. absurd (false≢true (h 0 e)))
    (λ e. rw (e, lost_in) ih)
lost-fewer (x ∷ l) (y ∷ k) h = let ih = lost-fewer l k (λ p e. h (suc p) e) in by_bool (eqb x 1)
    (λ e. rw (e, h 0 e, lost_in) (omega arith))
    (λ e. by_bool (eqb y 1) (λ f. rw (e, f, lost_in) (omega arith)) (λ f. rw (e, f, lost_in) ih))

-- none
pub no-lost : (lost : List ℕ) → lost_in lost ≡ 0 → (p : ℕ) → is_lost lost p ≡ false
no-lost [] h p = refl
no-lost (x ∷ l) h zero = by_bool (eqb x 1) (λ e. absurd (omega (arith, rw (e, lost_in) at h))) (λ e. e)
no-lost (x ∷ l) h (suc p) = by_bool (eqb x 1) (λ e. absurd (omega (arith, rw (e, lost_in) at h))) (λ e. no-lost l (rw (e, lost_in) at h) p)

pub none-lost : (lost c : List ℕ) → lost_in lost ≡ 0 → length (lost_places lost c) ≡ 0
none-lost lost [] h = refl
none-lost lost (p ∷ c) h = rw (no-lost lost h p) (none-lost lost c h)

pub drop-next : (l : List ℕ) (i : ℕ) → i < length l → drop i l ≡ get_or l i 0 ∷ drop (i + 1) l
drop-next l i h = rw (add-one, drop-cons l i 0)

-- ---- the places of a check
pub place-below : (t : List ℕ) (at w n i : ℕ) → Places t at w n → at ≤ i → i < at + w → get_or t i 0 < n
place-below t at w n i ps a b = let e : at + (i - at) ≡ i = omega arith in subst (λ k. get_or t k 0 < n) e (ps.below (i - at) (omega arith))

part-next : (t : List ℕ) (i e : ℕ) → i < e → e ≤ length t → take (e - i) (drop i t) ≡ get_or t i 0 ∷ take (e - (i + 1)) (drop (i + 1) t)
part-next t i e h r = let z : e - i ≡ suc (e - (i + 1)) = omega arith in rw (z, drop-next t i (omega arith))

module _ (lost t : List ℕ) (i e : ℕ) (more : i < e) (room : e ≤ length t) where
  -- one more lost place
  pub lost-hit : get_or lost (get_or t i 0) 0 ≡ 1 → lost_places lost (take (e - i) (drop i t)) ≡ get_or t i 0 ∷ lost_places lost (take (e - (i + 1)) (drop (i + 1) t))
  lost-hit h = rw (part-next t i e more room, h)

  -- one more place
  pub lost-miss : (get_or lost (get_or t i 0) 0 ≡ 1 → ⊥) → lost_places lost (take (e - i) (drop i t)) ≡ lost_places lost (take (e - (i + 1)) (drop (i + 1) t))
  lost-miss h = rw (part-next t i e more room, ne_eqb _ _ h)

-- none left
pub lost-end : (lost t : List ℕ) (i e : ℕ) → e ≤ i → lost_places lost (take (e - i) (drop i t)) ≡ []
lost-end lost t i e h = let z : e - i ≡ 0 = omega arith in rw z

-- ---- a restored place
-- it isn't lost
pub set-gone : (l : List ℕ) (q : ℕ) → is_lost (set l q 2) q ≡ false
set-gone [] q = refl
set-gone (x ∷ l) zero = refl
set-gone (x ∷ l) (suc q) = set-gone l q

-- nothing becomes lost
pub set-lost : (l : List ℕ) (q p : ℕ) → is_lost (set l q 2) p ≡ true → is_lost l p ≡ true
set-lost [] q p h = h
set-lost (x ∷ l) zero zero h = absurd (false≢true h)
set-lost (x ∷ l) zero (suc p) h = h
set-lost (x ∷ l) (suc q) zero h = h
set-lost (x ∷ l) (suc q) (suc p) h = set-lost l q p h

-- one lost place less
pub restore-one : (l : List ℕ) (p : ℕ) → is_lost l p ≡ true → suc (lost_in (set l p 2)) ≡ lost_in l
restore-one [] p h = absurd (false≢true h)
restore-one (x ∷ l) zero h = rw (h, lost_in)
restore-one (x ∷ l) (suc p) h = let ih = restore-one l p h in by_bool (eqb x 1) (λ e. rw (e, lost_in) (omega arith)) (λ e. rw (e, lost_in) ih)

lost-other : (l : List ℕ) (p : ℕ) (c : List ℕ) → has p c ≡ false → lost_places (set l p 2) c ≡ lost_places l c
lost-other l p [] h = refl
lost-other l p (q ∷ c) h =
    let ne : q ≢ p = λ e. true≢false (sym (eqb-self p) ∙ ap (eqb p) (sym e) ∙ or-false-l (eqb p q) (has p c) h) in
    let same = get_or-set_other l p q 2 0 ne in
    rw same (ap (λ r. cond (eqb (get_or l q 0) 1) (q ∷ r) r) (lost-other l p c (or-false-r (eqb p q) (has p c) h)))

-- one less of each check that holds it
pub lost-less : (l : List ℕ) (p : ℕ) → is_lost l p ≡ true → {c : List ℕ} → Distinct c
    → length (lost_places l c) ≡ cond (has p c) (suc (length (lost_places (set l p 2) c))) (length (lost_places (set l p 2) c))
lost-less l p h dnil = refl
lost-less l p h (dnew {x = q} {l = c} new d) = by_bool (eqb p q)
    (λ e. let z : p ≡ q = eqb-true p q e in
    let gone : eqb (get_or (set l p 2) q 0) 1 ≡ false = ap (λ x. eqb x 1) (ap (λ x. get_or (set l p 2) x 0) (sym z) ∙ get_or-set_same l p 2 0 (lost-inside l p h)) in
    let was : eqb (get_or l q 0) 1 ≡ true = ap (is_lost l) (sym z) ∙ h in
    rw (e, gone, was) (ap (λ r. suc (length r)) (sym (lost-other l p c (ap (λ x. has x c) z ∙ new)))))
    (λ e. let same = get_or-set_other l p q 2 0 (λ y. true≢false (sym (eqb-self p) ∙ ap (eqb p) (sym y) ∙ e)) in
    let ih = lost-less l p h d in
    by_bool (eqb (get_or l q 0) 1)
    (λ k. rw (e, same, k) (ap suc ih ∙ by_bool (has p c) (λ g. rw g) (λ g. rw g)))
    (λ k. rw (e, same, k) ih))
