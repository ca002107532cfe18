-- Ascending lists of places (`rising`): some of the numbers in order ascend, and an ascending list is filtered out of them again.
use Rattle.std.specs.Prelude.{◌≡◌, refl, Bool, true, false, ◌||◌, ◌&&◌, List, [], ◌∷◌, ℕ, zero, suc, ◌+◌, ◌<◌, ◌≤◌, eqb, ltb, leb}
use Rattle.std.proofs.Common.{sym, ap, ap₂, ◌∙◌, subst, arith, le-leb, lt-ltb, leb-true, ltb-true}
use Rattle.lists.specs.ListLaws.{all_map, all_of, filter_none, filter_same}
use Rattle.lists.specs.Lists.{has, filter, All, All.nil, All.cons, from}
use Rattle.lists.specs.Numbers.{from_all}
use Rattle.lists.specs.Tests.{eqb_comm, eqb-true, eqb-false, eqb-lt, by_bool, and_l, and_r}
use Rattle.table.specs.Table.{rising}

-- ---- ascending lists
-- a place that is high enough and low enough, and the rest
pub rises : (n b p : ℕ) (c : List ℕ) → b ≤ p → p < n → rising n (suc p) c ≡ true → rising n b (p ∷ c) ≡ true
rises n b p c h l r = rw (le-leb b p h, lt-ltb p n l) r

-- from an earlier bound
pub rising-weak : (n a b : ℕ) (c : List ℕ) → a ≤ b → rising n b c ≡ true → rising n a c ≡ true
rising-weak n a b [] h r = refl
rising-weak n a b (p ∷ c) h r =
    let k = and_l (leb b p && ltb p n) (rising n (suc p) c) r in
    let x = leb-true b p (and_l (leb b p) (ltb p n) k) in
    rises n a p c (omega arith) (ltb-true p n (and_r (leb b p) (ltb p n) k)) (and_r (leb b p && ltb p n) (rising n (suc p) c) r)

-- ascending below k, so below k
pub rising-low : (k b : ℕ) (l : List ℕ) → rising k b l ≡ true → All (λ p. p < k) l
rising-low k b [] r = nil
rising-low k b (p ∷ l) r = cons (ltb-true p k (and_r (leb b p) (ltb p k) (and_l (leb b p && ltb p k) (rising k (suc p) l) r)))
    (rising-low k (suc p) l (and_r (leb b p && ltb p k) (rising k (suc p) l) r))

-- some of the numbers in order
pub rising-filter : (f : ℕ → Bool) (n i c : ℕ) → i + c ≤ n → rising n i (filter f (from i c)) ≡ true
unfolding from
rising-filter f n i zero h = refl
rising-filter f n i (suc c) h = let r = rising-filter f n (suc i) c (omega arith) in by_bool (f i)
    (λ e. rw (e, filter) (rises n i i (filter f (from (suc i) c)) (omega arith) (omega arith) r))
    (λ e. rw (e, filter) (rising-weak n i (suc i) (filter f (from (suc i) c)) (omega arith) r))

-- a lower place is no member
pub rising-not : (n b p : ℕ) (c : List ℕ) → p < b → rising n b c ≡ true → has p c ≡ false
rising-not n b p [] h r = refl
rising-not n b p (q ∷ c) h r =
    let k = and_l (leb b q && ltb q n) (rising n (suc q) c) r in
    let x = leb-true b q (and_l (leb b q) (ltb q n) k) in
    rw (eqb-lt p q (omega arith)) (rising-not n (suc q) p c (omega arith) (and_r (leb b q && ltb q n) (rising n (suc q) c) r))

-- an ascending list, picked out of the numbers from i on
pick : (n i k : ℕ) (c : List ℕ) → i + k ≡ n → rising n i c ≡ true → filter (λ p. has p c) (from i k) ≡ c
unfolding from
pick n i k [] e r = filter_none (λ p. false) (all_of (λ x. refl) (from i k))
pick n i zero (p ∷ c) e r =
    let a = and_l (leb i p && ltb p n) (rising n (suc p) c) r in
    let x = leb-true i p (and_l (leb i p) (ltb p n) a) in
    let y = ltb-true p n (and_r (leb i p) (ltb p n) a) in
    absurd (omega arith)
pick n i (suc k) (p ∷ c) e r =
    let a = and_l (leb i p && ltb p n) (rising n (suc p) c) r in
    let b = and_r (leb i p && ltb p n) (rising n (suc p) c) r in
    let x = leb-true i p (and_l (leb i p) (ltb p n) a) in
    let y = ltb-true p n (and_r (leb i p) (ltb p n) a) in
    by_bool (eqb i p)
    (λ t. let z = eqb-true i p t in
    let w : rising n (suc i) c ≡ true = subst (λ x. rising n (suc x) c ≡ true) (sym z) b in
    rw (t, filter) (ap₂ ◌∷◌ z (filter_same (λ q. has q (p ∷ c)) (λ q. has q c) (all_map (λ q h. let l = h.0 in ap (λ v. v || has q c) (eqb_comm q p ∙ eqb-lt p q (omega arith))) (from_all (suc i) k))
    ∙ pick n (suc i) k c (omega arith) w)))
    (λ t. let z = eqb-false i p t in
    let u : rising n (suc i) (p ∷ c) ≡ true = rises n (suc i) p c (above i p x z) y b in
    let v : has i (p ∷ c) ≡ false = rising-not n (suc i) i (p ∷ c) (omega arith) u in
    rw (v, filter) (pick n (suc i) k (p ∷ c) (omega arith) u))
  where
    above : (i p : ℕ) → i ≤ p → (i ≡ p → ⊥) → suc i ≤ p
    above i p x z = omega arith

-- the members of an ascending list, sorted, are the list
pub sorted_back : (n : ℕ) (c : List ℕ) → rising n 0 c ≡ true → filter (λ p. has p c) (from 0 n) ≡ c
sorted_back n c r = pick n 0 n c (omega arith) r
