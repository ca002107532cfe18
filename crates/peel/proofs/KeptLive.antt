-- The kept checks become live, from the last to the first.
use mathlib.Core.Path.{◌≡◌, refl, sym, ap, ap₂, ◌∙◌, subst}
use mathlib.Core.Bool.{Bool, false, cond}
use mathlib.Core.List.{List, [], ◌∷◌, map}
use Prim.Native.Nat.{ℕ, zero, suc, ◌+◌, ◌-◌, ◌<◌, ◌≤◌}
use native.Mathlib.Omega.{arith}
use lib.ListN.{length, get_or, take, drop, length-take, length-drop, length-map, replicate}
use lib.Seq.{get_or-set_same, get_or-set_other, get_or-take, drop-cons, drop-length}
use lib.Dec.{eqb}
use borrow.Author.Tests.{ne_eqb}
use Rattle.lists.specs.Tests.{eqb-true, eqb-false, eqb-self, by_bool}
use Rattle.gf2.specs.Gf2.{is_zero, choose, xor_group, row_of, is_sum}
use Rattle.lists.specs.ListLaws.{all-at, get_d-zeros, all_map}
use Rattle.lists.specs.Lists.{has, All, All.nil, All.cons, count, from}
use Rattle.lists.specs.Numbers.{from_all}
use Rattle.table.specs.Checks.{check}
use Rattle.table.specs.Table.{total}
use Rattle.keep.specs.Kept.{kept_of}
use Rattle.live.specs.Live.{Tally}
use Rattle.live.specs.TallyLaws.{tally-more}
use Rattle.freed.specs.Most.{lives}
use Rattle.peel.specs.Choice.{weight}
use Rattle.peel.specs.Turn.{Ready, Numbers, Zeros, Entered, First, Peeled}

-- ---- the kept numbers rise
chosen-all : {P : ℕ → Type 0} (f : ℕ → ℕ) (L : List ℕ) {l : List ℕ} → All P l → All P (choose xor_group is_zero f L l)
chosen-all f L nil = nil
chosen-all f L (cons {x = x} h a) = by_bool (is_sum xor_group is_zero L (f x))
    (λ e. rw (e, choose) (chosen-all f L a))
    (λ e. rw (e, choose) (cons h (chosen-all f (f x ∷ L) a)))

chosen-length : (f : ℕ → ℕ) (L : List ℕ) (i c : ℕ) → length (choose xor_group is_zero f L (from i c)) ≤ c
unfolding from
chosen-length f L i zero = omega arith
chosen-length f L i (suc c) = by_bool (is_sum xor_group is_zero L (f i))
    (λ e. let h = chosen-length f L (suc i) c in rw (e, choose) (omega arith))
    (λ e. let h = chosen-length f (f i ∷ L) (suc i) c in rw (e, choose) (omega arith))

has-over : (i : ℕ) {l : List ℕ} → All (λ j. i < j) l → has i l ≡ false
has-over i nil = refl
has-over i (cons {x = j} h a) = rw (ne_eqb i j (λ (e : i ≡ j). omega arith)) (has-over i a)

pub kept-few : (t : List ℕ) (m : ℕ) → length (kept_of t m) ≤ m
unfolding kept_of
kept-few t m = chosen-length (λ j. row_of (check t m j)) [] 0 m

pub kept-all : (t : List ℕ) (m : ℕ) → All (λ j. j < m) (kept_of t m)
unfolding kept_of
kept-all t m = chosen-all (λ j. row_of (check t m j)) [] (all_map (λ j r. let b = r.1 in lt j b) (from_all 0 m)) where
  lt : (j : ℕ) → j < 0 + m → j < m
  lt j b = omega arith

pub kept_low : (t : List ℕ) (m i : ℕ) → i < length (kept_of t m) → get_or (kept_of t m) i 0 < m
kept_low t m i h = all-at 0 (kept-all t m) i h

-- ---- flags at just these numbers
lives-chosen : (f : ℕ → ℕ) (live L : List ℕ) (i c : ℕ) → ((j : ℕ) → i ≤ j → get_or live j 0 ≡ cond (has j (choose xor_group is_zero f L (from i c))) 1 0)
    → lives live i c ≡ choose xor_group is_zero f L (from i c)
unfolding lives from
lives-chosen f live L i zero h = refl
lives-chosen f live L i (suc c) h = by_bool (is_sum xor_group is_zero L (f i))
    (λ e. let h' : (j : ℕ) → i ≤ j → get_or live j 0 ≡ cond (has j (choose xor_group is_zero f L (from (suc i) c))) 1 0 = rw (e, choose) at h in
    let o : has i (choose xor_group is_zero f L (from (suc i) c)) ≡ false = has-over i (chosen-all f L (all_map (λ j r. r.0) (from_all (suc i) c))) in
    let z : get_or live i 0 ≡ 0 = h' i (omega arith) ∙ rw o in
    rw (e, choose, z) (lives-chosen f live L (suc i) c (λ j r. h' j (omega arith))))
    (λ e. let h' : (j : ℕ) → i ≤ j → get_or live j 0 ≡ cond (has j (i ∷ choose xor_group is_zero f (f i ∷ L) (from (suc i) c))) 1 0 = rw (e, choose) at h in
    let z : get_or live i 0 ≡ 1 = h' i (omega arith) ∙ rw (eqb-self i) in
    rw (e, choose, z) (ap (λ l. i ∷ l) (lives-chosen f live (f i ∷ L) (suc i) c (λ j r. h' j (omega arith) ∙ rw (ne_eqb j i (λ (q : j ≡ i). omega arith))))))

pub lives-kept : (t : List ℕ) (m : ℕ) (live : List ℕ) → ((j : ℕ) → get_or live j 0 ≡ cond (has j (kept_of t m)) 1 0) → lives live 0 m ≡ kept_of t m
unfolding kept_of
lives-kept t m live h = lives-chosen (λ j. row_of (check t m j)) live [] 0 m (λ j r. h j)

-- ---- the loop: the kept numbers from i on are live
pub record Noting (t : List ℕ) (m : ℕ) (live c x : List ℕ) (i : ℕ) : Type 0 where
  pub flags : (j : ℕ) → get_or live j 0 ≡ cond (has j (drop i (kept_of t m))) 1 0
  pub tally : Tally (check t m) (drop i (kept_of t m)) c x

pub noting-start : {t : List ℕ} {m k : ℕ} {ids live c x : List ℕ} → Numbers t m ids k → Zeros live → Zeros c → Zeros x → Noting t m live c x k
noting-start {t} {m} {k} s zl zc zx =
    let e : drop k (kept_of t m) ≡ [] = ap (λ (i : ℕ). drop i (kept_of t m)) s.count ∙ drop-length (kept_of t m) in
    record { flags = λ j. rw e (zl.each j); tally = rw e (record { counts = λ p. zc.each p; names = λ p. zx.each p }) }

-- the number at hand
pub number_at : {t : List ℕ} {m k : ℕ} {ids : List ℕ} (i : ℕ) → Numbers t m ids k → i < k → get_or ids i 0 ≡ get_or (kept_of t m) i 0
number_at {t} {m} {k} {ids} i s h = sym (get_or-take k ids i 0 h) ∙ ap (λ (l : List ℕ). get_or l i 0) s.list

pub number-low : {t : List ℕ} {m k : ℕ} {ids : List ℕ} (i : ℕ) → Numbers t m ids k → i < k → get_or ids i 0 < m
number-low {t} {m} i s h = let n = s.count in rw (number_at i s h) (kept_low t m i (omega arith))

pub numbers-room : {t : List ℕ} {m k : ℕ} {ids : List ℕ} → Numbers t m ids k → (k ≤ length ids) × (k ≤ m)
numbers-room {t} {m} {k} {ids} s =
    let n = s.count in
    let f = kept-few t m in
    let l = ap length s.list in
    (omega (arith, length-take k ids), omega arith)

count-few : (f : List ℕ → Bool) (l : List (List ℕ)) → count f l ≤ length l
count-few f [] = omega arith
count-few f (c ∷ l) = by_bool (f c)
    (λ e. let h = count-few f l in rw (e, count) (omega arith))
    (λ e. let h = count-few f l in rw (e, count) (omega arith))

pub counts-few : {t : List ℕ} {m : ℕ} {live c x : List ℕ} {i : ℕ} → Noting t m live c x i → (p : ℕ) → get_or c p 0 ≤ m
counts-few {t} {m} {i = i} s p =
    let a = count-few (has p) (map (check t m) (drop i (kept_of t m))) in
    let b = length-map (drop i (kept_of t m)) (check t m) in
    let d = length-drop i (kept_of t m) in
    let f = kept-few t m in
    let e = s.tally.counts p in
    omega arith

pub noting-turn : {t : List ℕ} {m : ℕ} {live c x live' c' x' : List ℕ} (i j : ℕ) → Noting t m live c x i → 0 < i → i ≤ length (kept_of t m) → m ≤ length live
    → j ≡ get_or (kept_of t m) (i - 1) 0 → Entered t m j live c x live' c' x' → Noting t m live' c' x' (i - 1)
noting-turn {t} {m} {live} {c} {x} {live'} {c'} {x'} i j s h l lm e y =
    let K = kept_of t m in
    let q : suc (i - 1) ≡ i = omega arith in
    let d : drop (i - 1) K ≡ j ∷ drop i K = drop-cons K (i - 1) 0 (omega arith) ∙ ap₂ (λ (a b : ℕ). a ∷ drop b K) (sym e) q in
    let low = kept_low t m (i - 1) (omega arith) in
    record {
      flags = λ p. ap (λ (v : List ℕ). get_or v p 0) y.flags ∙ by_bool (eqb p j)
          (λ a. let b : p ≡ j = eqb-true p j a in rw (d, b, eqb-self j) (get_or-set_same live j 1 0 (omega arith)))
          (λ a. rw (d, a) (get_or-set_other live j p 1 0 (eqb-false p j a) ∙ s.flags p));
      tally = rw d (tally-more (check t m) j s.tally y.noted);
    }

pub noting-stop : {t : List ℕ} {m n : ℕ} {live c x : List ℕ} → Noting t m live c x 0 → m ≤ length live → n ≡ length c → n ≤ length x → First t m n live c x
noting-stop {t} {m} {n} {live} {c} {x} s fl cn nm =
    let e = lives-kept t m live s.flags in
    record { ready = record { flags = fl; counts = cn; named = nm; tally = rw e s.tally }; list = e }

-- ---- the ones
pub ones-start : {t : List ℕ} {m k : ℕ} {ids : List ℕ} → Numbers t m ids k → 0 ≡ total (map (weight t) (drop k (kept_of t m)))
ones-start {t} {m} s = sym (ap (λ (l : List ℕ). total (map (weight t) l)) (ap (λ (i : ℕ). drop i (kept_of t m)) s.count ∙ drop-length (kept_of t m)))

pub ones-turn : (t : List ℕ) (m : ℕ) (i j sum w : ℕ) → 0 < i → i ≤ length (kept_of t m) → j ≡ get_or (kept_of t m) (i - 1) 0 → w ≡ get_or t (4 + j) 0
    → sum ≡ total (map (weight t) (drop i (kept_of t m))) → sum + w ≡ total (map (weight t) (drop (i - 1) (kept_of t m)))
unfolding weight
ones-turn t m i j sum w h l e g s =
    let K = kept_of t m in
    let q : suc (i - 1) ≡ i = omega arith in
    let d : drop (i - 1) K ≡ j ∷ drop i K = drop-cons K (i - 1) 0 (omega arith) ∙ ap₂ (λ (a b : ℕ). a ∷ drop b K) (sym e) q in
    rw d (omega arith)

-- ---- the whole
pub first-ready : {t : List ℕ} {m n k : ℕ} {live c x : List ℕ} → First t m k live c x → n ≡ k → Ready t m n live c x
first-ready {t} {m} {n} {k} {live} {c} {x} f e = subst (λ (j : ℕ). Ready t m j live c x) (sym e) f.ready

pub first-peeled : {g : ℕ → List ℕ} {t : List ℕ} {m n k l : ℕ} {live c x order owns adj : List ℕ} {kt ka : ℕ} → First t m l live c x
    → Peeled g m n k (lives live 0 m) order owns adj kt ka → Peeled g m n k (kept_of t m) order owns adj kt ka
first-peeled {g} {t} {m} {n} {k} {l} {live} {c} {x} {order} {owns} {adj} {kt} {ka} f p = subst (λ (JS : List ℕ). Peeled g m n k JS order owns adj kt ka) f.list p

-- ---- fresh buffers
zero-take : (n : ℕ) (l : List ℕ) (i : ℕ) → ((j : ℕ) → get_or l j 0 ≡ 0) → get_or (take n l) i 0 ≡ 0
zero-take zero l i h = refl
zero-take (suc n) [] i h = refl
zero-take (suc n) (x ∷ l) zero h = h 0
zero-take (suc n) (x ∷ l) (suc i) h = zero-take n l i (λ j. h (suc j))

pub zeros-all : (k : ℕ) → Zeros (replicate k 0)
zeros-all k = record { each = get_d-zeros k }

pub zeros-part : (k n : ℕ) → Zeros (take n (replicate k 0))
zeros-part k n = record { each = λ i. zero-take n (replicate k 0) i (get_d-zeros k) }
