-- Chains of checks: made place by place, walked from the top.
use mathlib.Core.Path.{◌≡◌, refl, sym, ap, ◌∙◌, subst}
use mathlib.Core.Bool.{Bool, true, false, cond, ◌||◌}
use mathlib.Core.List.{List, [], ◌∷◌}
use mathlib.Core.Logic.{◌≢◌}
use Prim.Native.Nat.{ℕ, suc, ◌+◌, ◌-◌, ◌<◌, ◌≤◌}
use native.Mathlib.Numerals.{add-one}
use native.Mathlib.Omega.{arith}
use lib.Dec.{eqb}
use lib.ListN.{length, get_or, set, take, drop, length-set, length-take, length-drop}
use lib.Seq.{take-suc, get_or-take, get_or-drop, get_or-set_same, get_or-set_other}
use Rattle.lists.specs.Tests.{eqb-true, eqb-false, eqb-self, by_bool}
use Rattle.lists.specs.ListLaws.{has-append}
use Rattle.lists.specs.Lists.{has}
use Rattle.table.specs.Checks.{offset, check, Places}
use Rattle.chains.specs.Linked.{Chain, Chain.end, Chain.link, Links, holders}
use Rattle.table.specs.Accepted.{Accepted, offset-more, offset-last}
use Rattle.chains.proofs.Counting.{run_is}

-- ---- a chain
pub chain-low : {nx ow : List ℕ} {x i : ℕ} {js : List ℕ} → Chain nx ow x i js → i ≤ x
chain-low end = omega arith
chain-low (link i a b c) = a

-- what is written at x disturbs no chain below x
pub chain-kept : {nx ow : List ℕ} (x : ℕ) {i : ℕ} {js : List ℕ} (v w : ℕ) → Chain nx ow x i js → Chain (set nx x v) (set ow x w) (x + 1) i js
chain-kept x v w end = end
chain-kept {nx} {ow} x v w (link i {js = js} a b c) =
    let ne : i ≢ x = λ e. omega arith in
    let e : get_or (set nx x v) i 0 ≡ get_or nx i 0 = get_or-set_other nx x i v 0 ne in
    let f : get_or (set ow x w) i 0 ≡ get_or ow i 0 = get_or-set_other ow x i w 0 ne in
    subst (λ o. Chain (set nx x v) (set ow x w) (x + 1) (suc i) (o ∷ js)) f
    (link i (omega arith) (rw e b) (subst (λ k. Chain (set nx x v) (set ow x w) (x + 1) k js) (sym e) (chain-kept x v w c)))

-- ---- a place is put in front of its chain
module _ (nx ow head : List ℕ) (x : ℕ) (M : ℕ → List ℕ) (l : Links nx ow head x M) (p j : ℕ) (inside : p < length head) (room : x < length nx) (space : x < length ow) where
  new-chain : Chain (set nx x (get_or head p 0)) (set ow x j) (x + 1) (x + 1) (j ∷ M p)
  new-chain =
      let e : get_or (set nx x (get_or head p 0)) x 0 ≡ get_or head p 0 = get_or-set_same nx x _ 0 room in
      let f : get_or (set ow x j) x 0 ≡ j = get_or-set_same ow x j 0 space in
      let c = l.each p inside in
      let low = chain-low c in
      rw add-one (subst (λ o. Chain (set nx x (get_or head p 0)) (set ow x j) (suc x) (suc x) (o ∷ M p)) f
      (link x (omega arith) (rw e low) (subst (λ k. Chain (set nx x (get_or head p 0)) (set ow x j) (suc x) k (M p)) (sym e)
      (rw add-one at (chain-kept x (get_or head p 0) j c)))))

  pub link-turn : Links (set nx x (get_or head p 0)) (set ow x j) (set head p (x + 1)) (x + 1) (λ q. cond (eqb q p) (j ∷ M p) (M q))
  link-turn = record {
    each = λ q h. by_bool (eqb q p)
        (λ e. let z : q ≡ p = eqb-true q p e in
        rw (z, eqb-self p, get_or-set_same head p (x + 1) 0 inside) new-chain)
        (λ e. rw (e, get_or-set_other head p q (x + 1) 0 (eqb-false q p e)) (chain-kept x (get_or head p 0) j (l.each q (rw length-set at h))));
  }

-- lists that agree
pub links-same : {nx ow head : List ℕ} {x : ℕ} (M N : ℕ → List ℕ) → ((q : ℕ) → M q ≡ N q) → Links nx ow head x M → Links nx ow head x N
links-same {nx} {ow} {head} {x} M N h l = record { each = λ q k. subst (λ js. Chain nx ow x (get_or head q 0) js) (h q) (l.each q k) }

-- ---- the places of a check, one by one
or-false : (a : Bool) → (a || false) ≡ a
or-false true = refl
or-false false = refl

pub has_more : (p : ℕ) (l : List ℕ) (i : ℕ) → i < length l → has p (take (i + 1) l) ≡ (has p (take i l) || eqb p (get_or l i 0))
has_more p l i h = ap (has p) (ap (λ (k : ℕ). take k l) (add-one i) ∙ take-suc l i 0 h) ∙ has-append p (take i l) (get_or l i 0 ∷ [])
    ∙ ap (λ b. has p (take i l) || b) (or-false (eqb p (get_or l i 0)))

has-below : (q : ℕ) (l : List ℕ) → ((k : ℕ) → k < length l → get_or l k 0 < q) → has q l ≡ false
has-below q [] h = refl
has-below q (a ∷ l) h = by_bool (eqb q a)
    (λ e. let z : q ≡ a = eqb-true q a e in let y = h 0 (omega arith) in absurd (omega arith))
    (λ e. rw e (has-below q l (λ k z. h (suc k) (omega arith))))

-- the lists after k places of check j
abbrev pub partly : List ℕ → ℕ → (ℕ → List ℕ) → ℕ → List ℕ
partly c j L q = cond (has q c) (j ∷ L q) (L q)

module _ (t : List ℕ) (at weight n : ℕ) (ps : Places t at weight n) (i : ℕ) (from : at ≤ i) (more : i < at + weight) where
  in-part : i - at < length (drop at t)
  in-part = let r = ps.room in simp length-drop (omega arith)

  place_is : get_or (drop at t) (i - at) 0 ≡ get_or t i 0
  place_is = let e : at + (i - at) ≡ i = omega arith in get_or-drop at t (i - at) 0 ∙ ap (λ k. get_or t k 0) e

  not_yet : has (get_or t i 0) (take (i - at) (drop at t)) ≡ false
  not_yet = has-below (get_or t i 0) (take (i - at) (drop at t)) (λ k z.
      let y : k < i - at = omega (arith, simp length-take at z) in
      let e : at + (i - at) ≡ i = omega arith in
      subst (λ x. x < get_or t i 0) (sym (get_or-take (i - at) (drop at t) k 0 y ∙ get_or-drop at t k 0)) (subst (λ x. get_or t (at + k) 0 < get_or t x 0) e (ps.rising k (i - at) y (omega arith))))

  step_same : (j : ℕ) (L : ℕ → List ℕ) (q : ℕ) → cond (eqb q (get_or t i 0)) (j ∷ partly (take (i - at) (drop at t)) j L (get_or t i 0)) (partly (take (i - at) (drop at t)) j L q)
      ≡ partly (take (i + 1 - at) (drop at t)) j L q
  step_same j L q =
      let z : i + 1 - at ≡ i - at + 1 = omega arith in
      let m : has q (take (i + 1 - at) (drop at t)) ≡ (has q (take (i - at) (drop at t)) || eqb q (get_or t i 0)) =
      ap (λ k. has q (take k (drop at t))) z ∙ has_more q (drop at t) (i - at) in-part ∙ ap (λ x. has q (take (i - at) (drop at t)) || eqb q x) place_is in
      by_bool (eqb q (get_or t i 0))
      (λ e. let y : q ≡ get_or t i 0 = eqb-true q (get_or t i 0) e in rw (m, y, eqb-self (get_or t i 0), not_yet))
      (λ e. rw (m, e, or-false (has q (take (i - at) (drop at t)))))

  -- a turn of the loop
  pub check-turn : (j p : ℕ) (nx ow head : List ℕ) (L : ℕ → List ℕ) → p ≡ get_or t i 0 → p < length head → i < length nx → i < length ow
      → Links nx ow head i (partly (take (i - at) (drop at t)) j L)
      → Links (set nx i (get_or head p 0)) (set ow i j) (set head p (i + 1)) (i + 1) (partly (take (i + 1 - at) (drop at t)) j L)
  check-turn j p nx ow head L e a b d l = rw e (links-same _ _ (step_same j L) (link-turn nx ow head i (partly (take (i - at) (drop at t)) j L) l (get_or t i 0) j (subst (λ x. x < length head) e a) b d))

-- before the first place, and after the last
pub check-start : (t : List ℕ) (at j : ℕ) (nx ow head : List ℕ) (L : ℕ → List ℕ) → Links nx ow head at L → Links nx ow head at (partly (take (at - at) (drop at t)) j L)
check-start t at j nx ow head L l = let z : at - at ≡ 0 = omega arith in rw z l

pub check-end : (t : List ℕ) (at weight j i : ℕ) (nx ow head : List ℕ) (L : ℕ → List ℕ) → at + weight ≤ i → i ≤ at + weight
    → Links nx ow head i (partly (take (i - at) (drop at t)) j L) → Links nx ow head (at + weight) (partly (take weight (drop at t)) j L)
check-end t at weight j i nx ow head L a b l = let e : i ≡ at + weight = omega arith in let z : at + weight - at ≡ weight = omega arith in rw (e, z) at l

-- ---- all checks
pub holders-more : (f : ℕ → List ℕ) (p k : ℕ) → partly (f k) k (λ q. holders f q k) p ≡ holders f p (k + 1)
unfolding holders
holders-more f p k = rw (add-one k)

-- no check yet
pub links-none : (nx ow head : List ℕ) (x : ℕ) (f : ℕ → List ℕ) → ((p : ℕ) → get_or head p 0 ≡ 0) → Links nx ow head x (λ p. holders f p 0)
unfolding holders
links-none nx ow head x f h = record { each = λ p k. rw (h p) end }

module _ (t : List ℕ) (m n s : ℕ) (k : Accepted t m n s) where
  -- one check more
  pub links-more : (j : ℕ) → j < m → (a w : ℕ) → a ≡ 5 + m + offset t j → w ≡ get_or t (4 + j) 0 → (nx ow head : List ℕ)
      → Links nx ow head (a + w) (partly (take w (drop a t)) j (λ p. holders (check t m) p j)) → Links nx ow head (5 + m + offset t (j + 1)) (λ p. holders (check t m) p (j + 1))
  links-more j h a w at weight nx ow head l =
      let e = offset-more t m j a w at weight in
      let r = run_is t m n s k j h a w at weight in
      links-same _ _ (λ p. ap (λ c. partly c j (λ q. holders (check t m) q j) p) r ∙ holders-more (check t m) p j)
      (subst (λ x. Links nx ow head x (partly (take w (drop a t)) j (λ p. holders (check t m) p j))) e l)

  -- all
  pub links-all : (j : ℕ) → m ≤ j → j ≤ m → (nx ow head : List ℕ) → Links nx ow head (5 + m + offset t j) (λ p. holders (check t m) p j) → Links nx ow head (length t) (λ p. holders (check t m) p m)
  links-all j a b nx ow head l = let e : j ≡ m = omega arith in
      subst (λ x. Links nx ow head x (λ p. holders (check t m) p m)) (offset-last t m n s k) (rw e at l)
