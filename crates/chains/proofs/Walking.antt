-- The walk along a chain.
use mathlib.Core.Path.{◌≡◌, refl, sym, ap, ◌∙◌, subst}
use mathlib.Core.Bool.{Bool, true, false, cond, ◌||◌, true≢false, false≢true}
use mathlib.Core.List.{List, [], ◌∷◌}
use Prim.Native.Nat.{ℕ, suc, ◌-◌, ◌<◌, ◌≤◌}
use native.Mathlib.Omega.{arith}
use lib.Dec.{eqb}
use lib.ListN.{length, get_or, set, length-set}
use lib.Seq.{get_or-set_same, get_or-set_other}
use Rattle.lists.specs.Tests.{eqb-true, eqb-false, eqb-self, by_bool, or_r}
use Rattle.lists.specs.Lists.{Distinct, Distinct.dnew, has}
use Rattle.chains.specs.Linked.{Chain, Chain.end, Chain.link, Walk, Walked}

-- where the walk stands: the checks of the chain, those passed and those left
pub record Walking (nx ow : List ℕ) (i₀ : ℕ) (c₀ : List ℕ) (bound i : ℕ) (c : List ℕ) (low : ℕ) : Type 0 where
  pub all : List ℕ
  pub done : List ℕ
  pub rest : List ℕ
  pub start : Chain nx ow (length nx) i₀ all
  pub chain : Chain nx ow (length nx) i rest
  pub room : length nx ≤ length ow
  pub split : (j : ℕ) → has j all ≡ (has j done || has j rest)
  pub fresh : (j : ℕ) → has j rest ≡ true → has j done ≡ false
  pub distinct : Distinct rest
  pub inside : (j : ℕ) → has j all ≡ true → (j < length c₀) × (0 < get_or c₀ j 0)
  pub len : length c ≡ length c₀
  pub each : (j : ℕ) → get_or c j 0 ≡ cond (has j done) (get_or c₀ j 0 - 1) (get_or c₀ j 0)
  pub lower : low ≤ bound
  pub none_below : (j : ℕ) → has j done ≡ true → j < low → get_or c j 0 ≡ 1 → ⊥

pub walk_start : (nx ow c : List ℕ) (i bound : ℕ) → Walk nx ow c i → Walking nx ow i c bound i c bound
walk_start nx ow c i bound w = record {
  all = w.checks;
  done = [];
  rest = w.checks;
  start = w.chain;
  chain = w.chain;
  room = w.room;
  split = λ j. refl;
  fresh = λ j h. refl;
  distinct = w.distinct;
  inside = w.inside;
  len = refl;
  each = λ j. refl;
  lower = omega arith;
  none_below = λ j h. absurd (false≢true h);
}

-- the top of a chain that goes on
record Top (nx ow : List ℕ) (x i : ℕ) (js : List ℕ) : Type 0 where
  low : i - 1 < x
  falls : get_or nx (i - 1) 0 ≤ i - 1
  tail : List ℕ
  is : js ≡ get_or ow (i - 1) 0 ∷ tail
  chain : Chain nx ow x (get_or nx (i - 1) 0) tail

chain-top : {nx ow : List ℕ} {x i : ℕ} {js : List ℕ} → Chain nx ow x i js → 0 < i → Top nx ow x i js
chain-top end h = absurd (omega arith)
chain-top {nx} {ow} {x} (link i {js = js} a b c) h = let e : suc i - 1 ≡ i = omega arith in
    record { low = rw e a; falls = rw e b; tail = js; is = rw e; chain = rw e c }

chain-bottom : {nx ow : List ℕ} {x i : ℕ} {js : List ℕ} → Chain nx ow x i js → i ≤ 0 → js ≡ []
chain-bottom end h = refl
chain-bottom (link i a b c) h = absurd (omega arith)

first-new : {x : ℕ} {l : List ℕ} → Distinct (x ∷ l) → has x l ≡ false
first-new (dnew h d) = h

rest-new : {x : ℕ} {l : List ℕ} → Distinct (x ∷ l) → Distinct l
rest-new (dnew h d) = d

or_swap : (a b c : Bool) → (a || (b || c)) ≡ ((b || a) || c)
or_swap true true c = refl
or_swap true false c = refl
or_swap false true c = refl
or_swap false false c = refl

pub walk_end : (nx ow : List ℕ) (i₀ : ℕ) (c₀ : List ℕ) (bound i : ℕ) (c : List ℕ) (low : ℕ) → Walking nx ow i₀ c₀ bound i c low → i ≤ 0 → Walked nx ow i₀ c₀ c bound low
walk_end nx ow i₀ c₀ bound i c low w h =
    let e : w.rest ≡ [] = chain-bottom w.chain h in
    let same : (j : ℕ) → has j w.all ≡ has j w.done = λ j. w.split j ∙ ap (λ r. has j w.done || has j r) e ∙ or_nothing (has j w.done) in
    record {
      checks = w.all;
      chain = w.start;
      len = w.len;
      each = λ j. w.each j ∙ ap (λ b. cond b (get_or c₀ j 0 - 1) (get_or c₀ j 0)) (sym (same j));
      lower = w.lower;
      none_below = λ j k. w.none_below j (sym (same j) ∙ k);
    }
  where
    or_nothing : (a : Bool) → (a || false) ≡ a
    or_nothing true = refl
    or_nothing false = refl

-- a turn
module _ (nx ow : List ℕ) (i₀ : ℕ) (c₀ : List ℕ) (bound i : ℕ) (c : List ℕ) (low : ℕ) (w : Walking nx ow i₀ c₀ bound i c low) (more : 0 < i) where
  top : Top nx ow (length nx) i w.rest
  top = chain-top w.chain more

  pub walk-in : i - 1 < length nx
  walk-in = top.low

  pub walk-in-owner : i - 1 < length ow
  walk-in-owner = let a = top.low in let b = w.room in omega arith

  pub walk-falls : get_or nx (i - 1) 0 < i
  walk-falls = let a = top.falls in omega arith

  distinct-top : Distinct (get_or ow (i - 1) 0 ∷ top.tail)
  distinct-top = subst Distinct top.is w.distinct

  module _ (j : ℕ) (name : j ≡ get_or ow (i - 1) 0) where
    in_rest : (k : ℕ) → has k w.rest ≡ (eqb k j || has k top.tail)
    in_rest k = ap (has k) top.is ∙ ap (λ x. eqb k x || has k top.tail) (sym name)

    j-rest : has j w.rest ≡ true
    j-rest = in_rest j ∙ ap (λ b. b || has j top.tail) (eqb-self j)

    j-all : has j w.all ≡ true
    j-all = w.split j ∙ or_r (has j w.done) (has j w.rest) j-rest

    j-not-done : has j w.done ≡ false
    j-not-done = w.fresh j j-rest

    j-not-tail : has j top.tail ≡ false
    j-not-tail = ap (λ x. has x top.tail) name ∙ first-new distinct-top

    pub walk-check : j < length c
    walk-check = let a = (w.inside j j-all).0 in let b = w.len in omega arith

    was : get_or c j 0 ≡ get_or c₀ j 0
    was = w.each j ∙ rw j-not-done

    pub walk-some : 0 < get_or c j 0
    walk-some = let a = (w.inside j j-all).1 in let b = was in omega arith

    pub walk_turn : (left low' i' : ℕ) → left ≡ get_or c j 0 - 1 → (left ≡ 1 → low' ≤ j) → low' ≤ low → i' ≡ get_or nx (i - 1) 0 → Walking nx ow i₀ c₀ bound i' (set c j left) low'
    walk_turn left low' i' e one less to = record {
      all = w.all;
      done = j ∷ w.done;
      rest = top.tail;
      start = w.start;
      chain = rw to top.chain;
      room = w.room;
      split = λ k. w.split k ∙ ap (λ b. has k w.done || b) (in_rest k) ∙ or_swap (has k w.done) (eqb k j) (has k top.tail);
      fresh = λ k h. by_bool (eqb k j)
          (λ z. absurd (true≢false (sym h ∙ ap (λ x. has x top.tail) (eqb-true k j z) ∙ j-not-tail)))
          (λ z. rw z (w.fresh k (in_rest k ∙ rw z h)));
      distinct = rest-new distinct-top;
      inside = w.inside;
      len = simp length-set w.len;
      each = λ k. by_bool (eqb k j)
          (λ z. let y : k ≡ j = eqb-true k j z in rw (y, eqb-self j) (get_or-set_same c j left 0 walk-check ∙ e ∙ ap (λ x. x - 1) was))
          (λ z. rw z (get_or-set_other c j k left 0 (eqb-false k j z) ∙ w.each k));
      lower = let b = w.lower in omega arith;
      none_below = λ k h l o. by_bool (eqb k j)
          (λ z. let y : k ≡ j = eqb-true k j z in
          let is-left : get_or (set c j left) k 0 ≡ left = rw y (get_or-set_same c j left 0 walk-check) in
          let g = one (sym is-left ∙ o) in absurd (omega arith))
          (λ z. w.none_below k (rw z at h) (omega arith) (sym (get_or-set_other c j k left 0 (eqb-false k j z)) ∙ o));
    }
