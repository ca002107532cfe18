-- Ascending lists: runs, what is chosen or named of one, what a mask names, and two with the same members.
use Rattle.std.specs.Prelude.{◌≡◌, refl, Bool, true, false, cond, ◌||◌, List, [], ◌∷◌, map, ℕ, zero, suc, ◌+◌, ◌<◌, ◌≤◌, eqb, ltb}
use Rattle.std.proofs.Common.{sym, ap, ap₂, ◌∙◌, subst, true≢false, le_refl, arith, ltb-true, ltb-false}
use Rattle.std.proofs.lemmas.Bool.{false≢true}
use Rattle.gf2.specs.Gf2.{Group2, xor_group, sum_over, comb, is_sum, is_zero, choose}
use Rattle.lists.specs.Ascending.{up-weak, up-filter}
use Rattle.lists.specs.Lists.{All, All.nil, All.cons, has, filter, from, Up, Up.unone as upnil, Up.uthen as upmore}
use Rattle.lists.specs.ListLaws.{all_map}
use Rattle.lists.specs.Numbers.{filter-has}
use Rattle.lists.specs.Tests.{by_bool, eqb-true, eqb-false, eqb-self, or_r}
use Rattle.reasons.specs.Reasons.{named}

pub up_from : (i c : ℕ) → Up i (from i c)
unfolding from
up_from i zero = upnil
up_from i (suc c) = upmore (le_refl i) (up_from (suc i) c)

pub up-choose : (f : ℕ → ℕ) (K : List ℕ) {b : ℕ} {l : List ℕ} → Up b l → Up b (choose xor_group is_zero f K l)
up-choose f K upnil = upnil
up-choose f K {b} (upmore {x = x} {l = l} h u) = by_bool (is_sum xor_group is_zero K (f x))
    (λ e. rw (e, choose) (let q : b ≤ suc x = omega arith in up-weak q (up-choose f K u)))
    (λ e. rw (e, choose) (upmore h (up-choose f (f x ∷ K) u)))

pub up_named : (m : List Bool) {b : ℕ} {l : List ℕ} → Up b l → Up b (named m l)
up_named m upnil = upnil
up_named [] (upmore h u) = upnil
up_named (true ∷ m) (upmore h u) = upmore h (up_named m u)
up_named (false ∷ m) {b} (upmore {x = x} h u) = let q : b ≤ suc x = omega arith in up-weak q (up_named m u)

-- what lies below the start is not there
pub up-not : {b : ℕ} {l : List ℕ} → Up b l → (x : ℕ) → x < b → has x l ≡ false
up-not upnil x h = refl
up-not (upmore {x = y} k u) x h = ap₂ ◌||◌ (by_bool (eqb x y) (λ e. let i = eqb-true x y e in absurd (omega arith)) (λ e. e)) (up-not u x (omega arith))

-- ---- what a mask names
-- it is there
pub named_in : (m : List Bool) (U : List ℕ) → All (λ j. has j U ≡ true) (named m U)
named_in m [] = nil
named_in [] (u ∷ U) = nil
named_in (true ∷ m) (u ∷ U) = cons (ap (λ b. b || has u U) (eqb-self u)) (all_map (λ j k. or_r (eqb j u) (has j U) k) (named_in m U))
named_in (false ∷ m) (u ∷ U) = all_map (λ j k. or_r (eqb j u) (has j U) k) (named_in m U)

-- its sum
pub named-sum : {A X : Type 0} (G : Group2 A) (f : X → A) (m : List Bool) (U : List X) → sum_over G f (named m U) ≡ comb G m (map f U)
named-sum G f m [] = refl
named-sum G f [] (u ∷ U) = refl
named-sum G f (true ∷ m) (u ∷ U) = ap (G.◌⊕◌ (f u)) (named-sum G f m U)
named-sum G f (false ∷ m) (u ∷ U) = named-sum G f m U

-- ---- the mask of a list
abbrev pub mask_of : List ℕ → List ℕ → List Bool
mask_of L U = map (λ u. has u L) U

mask-none : (U : List ℕ) → named (mask_of [] U) U ≡ []
mask-none [] = refl
mask-none (u ∷ U) = mask-none U

-- a lower one more changes nothing
mask-lower : (x : ℕ) (L : List ℕ) {b : ℕ} {U : List ℕ} → x < b → Up b U → mask_of (x ∷ L) U ≡ mask_of L U
mask-lower x L h upnil = refl
mask-lower x L h (upmore {x = u} {l = U} k v) = ap₂ ◌∷◌ (ap (λ b. b || has u L) (by_bool (eqb u x) (λ e. let i = eqb-true u x e in absurd (omega arith)) (λ e. e))) (mask-lower x L (omega arith) v)

-- members of the list behind u
behind : (u : ℕ) (U : List ℕ) {b : ℕ} {L : List ℕ} → u < b → Up b L → All (λ j. has j (u ∷ U) ≡ true) L → All (λ j. has j U ≡ true) L
behind u U h upnil nil = nil
behind u U h (upmore {x = x} k v) (cons e a) = cons (by_bool (eqb x u) (λ i. let j = eqb-true x u i in absurd (omega arith)) (λ i. rw i at e)) (behind u U (omega arith) v a)

pub mask-of : {b : ℕ} {U : List ℕ} → Up b U → {L : List ℕ} → Up b L → All (λ j. has j U ≡ true) L → named (mask_of L U) U ≡ L
mask-of upnil upnil nil = refl
mask-of upnil (upmore h v) (cons e a) = absurd (false≢true e)
mask-of (upmore {x = u} {l = U} h v) upnil nil = mask-none U
mask-of (upmore {x = u} {l = U} h v) (upmore {x = x} {l = L} k w) (cons e a) = by_bool (eqb u x)
    (λ i. let j = eqb-true u x i in rw (i, named) (ap₂ ◌∷◌ j (ap (λ m. named m U) (mask-lower x L (omega arith) v) ∙ mask-of v (let q : suc u ≤ suc x = omega arith in up-weak q w) (behind u U (omega arith) w a))))
    (λ i. let j = eqb-false u x i in
    let e' : has x U ≡ true = by_bool (eqb x u) (λ z. let y = eqb-true x u z in absurd (j (sym y))) (λ z. rw z at e) in
    let g : u < x = higher (not-below x e') in
    rw (i, up-not w u (omega arith), named) (mask-of v (upmore g w) (cons e' (behind u U (omega arith) w a))))
  where
    not-below : (x : ℕ) → has x U ≡ true → (x < suc u → ⊥)
    not-below x t l = true≢false (sym t ∙ up-not v x l)

    higher : (x < suc u → ⊥) → u < x
    higher n = omega arith

-- ---- members of a filtered run
has-out : (g : ℕ → Bool) (q i c : ℕ) → i + c ≤ q → has q (filter g (from i c)) ≡ false
unfolding from
has-out g q i zero h = refl
has-out g q i (suc c) h = let ih = has-out g q (suc i) c (omega arith) in
    let e : eqb q i ≡ false = by_bool (eqb q i) (λ k. let j = eqb-true q i k in absurd (omega arith)) (λ k. k) in
    by_bool (g i) (λ t. rw (t, filter, e) ih) (λ t. rw (t, filter) ih)

pub has-run : (g : ℕ → Bool) (n q : ℕ) → has q (filter g (from 0 n)) ≡ cond (ltb q n) (g q) false
has-run g n q = by_bool (ltb q n)
    (λ e. filter-has g n q (ltb-true q n e) ∙ sym (ap (λ b. cond b (g q) false) e))
    (λ e. has-out g q 0 n (let k = ltb-false q n e in omega arith) ∙ sym (ap (λ b. cond b (g q) false) e))

pub up_run : (g : ℕ → Bool) (n : ℕ) → Up 0 (filter g (from 0 n))
up_run g n = up-filter g (up_from 0 n)

-- ---- ascending lists with the same members
has-head : (x : ℕ) (l : List ℕ) → has x (x ∷ l) ≡ true
has-head x l = ap (λ b. b || has x l) (eqb-self x)

pub up_same : {b : ℕ} {L M : List ℕ} → Up b L → Up b M → ((q : ℕ) → has q L ≡ has q M) → L ≡ M
up_same upnil upnil h = refl
up_same upnil (upmore {x = y} {l = M} k v) h = absurd (false≢true (h y ∙ has-head y M))
up_same (upmore {x = x} {l = L} k u) upnil h = absurd (true≢false (sym (has-head x L) ∙ h x))
up_same (upmore {x = x} {l = L} k u) (upmore {x = y} {l = M} j v) h = ap₂ ◌∷◌ heads (up_same u (subst (λ z. Up (suc z) M) (sym heads) v) tails)
  where
    heads : x ≡ y
    heads = by_bool (ltb x y)
        (λ e. let l = ltb-true x y e in let q : x < y = l in absurd (true≢false (sym (has-head x L) ∙ h x ∙ up-not (upmore (le_refl y) v) x q)))
        (λ e. let l = ltb-false x y e in by_bool (ltb y x)
        (λ d. let q = ltb-true y x d in absurd (true≢false (sym (has-head y M) ∙ sym (h y) ∙ up-not (upmore (le_refl x) u) y q)))
        (λ d. let q = ltb-false y x d in omega arith))

    drop_head : (z : ℕ) (N : List ℕ) (q : ℕ) → eqb q z ≡ false → has q (z ∷ N) ≡ has q N
    drop_head z N q e = ap (λ b. b || has q N) e

    tails : (q : ℕ) → has q L ≡ has q M
    tails q = by_bool (eqb q x)
        (λ e. let i = eqb-true q x e in up-not u q (omega arith) ∙ sym (up-not v q (omega (arith, heads))))
        (λ e. sym (drop_head x L q e) ∙ h q ∙ drop_head y M q (ap (eqb q) (sym heads) ∙ e))
