-- Laws of lists: what holds of all members, membership, being without repeats, the highest that passes; through reversing, joining, filtering and taking.
use Rattle.std.specs.Prelude.{List, [], ◌∷◌, map, ◌++◌, ◌≡◌, refl, ℕ, zero, suc, ◌<◌, ◌≤◌, eqb, length, get_or, set, replicate, take, drop, Bool, true, false, cond, not, ◌||◌, ◌&&◌}
use Rattle.std.proofs.Common.{sym, ap, subst, ap₂, ◌∙◌, arith, length-append, true≢false}
use Rattle.std.proofs.lemmas.Bool.{false≢true}
use Rattle.std.proofs.Math.Option.{Option, none, some}
use Rattle.lists.specs.Lists.{In, In.here, In.there, All, All.nil, All.cons, all_differ, all_pass, any_of, below, bxor, has, par, filter, highest, Distinct, Distinct.dnil, Distinct.dnew, rev, same_list}
use Rattle.lists.specs.Tests.{eqb-true, eqb-false, by_bool, or-false-l, or-false-r, eqb-self, eqb_comm, eqb-lt, eqb-gt, or_assoc, or_l, or_r, and_l, and_r}

pub all_map : {X : Type 0} {P Q : X → Type 0} → ((x : X) → P x → Q x) → {l : List X} → All P l → All Q l
all_map h nil = nil
all_map h (cons {x = x} p a) = cons (h x p) (all_map h a)

pub all_of : {X : Type 0} {P : X → Type 0} → ((x : X) → P x) → (l : List X) → All P l
all_of h [] = nil
all_of h (x ∷ l) = cons (h x) (all_of h l)

-- of one member
pub all-member : {X : Type 0} {P : X → Type 0} {x : X} {l : List X} → All P l → In x l → P x
all-member (cons p a) here = p
all-member (cons p a) (there i) = all-member a i
all-member {X = X} {P = P} nil x4 = elim x4 [ ]

pub length-below : (k : ℕ) → length (below k) ≡ k
length-below zero = refl
length-below (suc k) = ap suc (length-below k)

pub all-below : {P : ℕ → Type 0} (k : ℕ) → All P (below k) → (i : ℕ) → i < k → P i
all-below zero a i h = absurd (omega arith)
all-below {P} (suc k) (cons p a) i h = by_bool (eqb i k)
    (λ e. subst P (sym (eqb-true i k e)) p)
    (λ e. let ne = eqb-false i k e in all-below k a i (omega arith))

pub has-par : (p : ℕ) (c : List ℕ) → has p c ≡ false → par p c ≡ false
has-par p [] e = refl
has-par p (q ∷ c) e = ap₂ bxor (or-false-l (eqb p q) (has p c) e) (has-par p c (or-false-r (eqb p q) (has p c) e))

pub has-filter : (f : ℕ → Bool) (p : ℕ) (c : List ℕ) → f p ≡ false → has p (filter f c) ≡ false
has-filter f p [] e = refl
has-filter f p (q ∷ c) e = by_bool (f q)
    (λ t. rw (t, filter) (by_bool (eqb p q) (λ h. absurd (false≢true (sym e ∙ ap f (eqb-true p q h) ∙ t))) (λ h. rw h (has-filter f p c e))))
    (λ t. rw (t, filter) (has-filter f p c e))

pub all_filter : {P : ℕ → Type 0} (f : ℕ → Bool) {c : List ℕ} → All P c → All P (filter f c)
all_filter f nil = nil
all_filter {P} f (cons {x = q} {l = c} p a) = go (f q) (all_filter f a)
  where
    go : (b : Bool) → All P (filter f c) → All P (cond b (q ∷ filter f c) (filter f c))
    go true r = cons p r
    go false r = r

pub all-zip : {X : Type 0} {P Q : X → Type 0} {l : List X} → All P l → All Q l → All (λ x. P x × Q x) l
all-zip nil nil = nil
all-zip (cons p a) (cons q b) = cons (p, q) (all-zip a b)

pub all-has : (P : ℕ → Type 0) {X : Type 0} (f : X → ℕ) (p : ℕ) {l : List X} → has p (map f l) ≡ true → All (λ x. P (f x)) l → P p
all-has P f p h nil = absurd (false≢true h)
all-has P f p h (cons {x = x} {l = l} q a) = by_bool (eqb p (f x))
    (λ e. subst P (sym (eqb-true p (f x) e)) q)
    (λ e. all-has P f p (rw e at h) a)

pub below_of : {P : ℕ → Type 0} (n : ℕ) → ((p : ℕ) → p < n → P p) → All P (below n)
below_of zero h = nil
below_of (suc n) h = cons (h n (omega arith)) (below_of n (λ p l. h p (omega arith)))

pub map-all : {X Y : Type 0} {Q : Y → Type 0} (f : X → Y) {xs : List X} → All (λ x. Q (f x)) xs → All Q (map f xs)
map-all f nil = nil
map-all f (cons h a) = cons h (map-all f a)

-- what passes the filter, and what does not
pub filter-in : {P : ℕ → Type 0} (f : ℕ → Bool) {c : List ℕ} → All P c → All (λ x. P x × (f x ≡ true)) (filter f c)
filter-in f nil = nil
filter-in f (cons {x = q} {l = c} p a) = by_bool (f q)
    (λ t. rw (t, filter) (cons (p, t) (filter-in f a)))
    (λ t. rw (t, filter) (filter-in f a))

pub all_in : (P : ℕ → Type 0) (p : ℕ) {l : List ℕ} → has p l ≡ true → All P l → P p
all_in P p h nil = absurd (false≢true h)
all_in P p h (cons {x = x} q a) = by_bool (eqb p x) (λ e. subst P (sym (eqb-true p x e)) q) (λ e. all_in P p (rw e at h) a)

-- for every index, everywhere in the list
pub all-every : {I X : Type 0} {P : I → X → Type 0} (l : List X) → ((j : I) → All (P j) l) → All (λ x. (j : I) → P j x) l
all-every [] h = nil
all-every {I} {X} {P} (x ∷ l) h = cons (λ j. hd (h j)) (all-every l (λ j. tl (h j)))
  where
    hd : {j : I} → All (P j) (x ∷ l) → P j x
    hd (cons p a) = p

    tl : {j : I} → All (P j) (x ∷ l) → All (P j) l
    tl (cons p a) = a

pub par-has : (p : ℕ) (c : List ℕ) → par p c ≡ true → has p c ≡ true
par-has p c h = by_bool (has p c) (λ e. e) (λ e. absurd (true≢false (sym h ∙ has-par p c e)))

-- of different numbers each stands there once
pub differ-par : (l : List ℕ) → all_differ l ≡ true → (p : ℕ) → par p l ≡ has p l
differ-par [] d p = refl
differ-par (x ∷ l) d p = let n = and_l (not (has x l)) (all_differ l) d in let r = differ-par l (and_r (not (has x l)) (all_differ l) d) p in by_bool (eqb p x)
    (λ e. let z : has p l ≡ false = ap (λ y. has y l) (eqb-true p x e) ∙ not-has n in rw e (ap (bxor true) (has-par p l z)))
    (λ e. rw e r)
  where
    not-has : not (has x l) ≡ true → has x l ≡ false
    not-has n = by_bool (has x l) (λ t. absurd (true≢false (sym n ∙ ap not t))) (λ f. f)

some_inj : {a b : ℕ} → ◌≡◌ {A = Option ℕ} (some a) (some b) → a ≡ b
some_inj e = cc

pub highest-is : (n : ℕ) (f : ℕ → Bool) (p : ℕ) → highest n f ≡ some p → f p ≡ true
highest-is zero f p h = cc
highest-is (suc n) f p h = by_bool (f n)
    (λ e. let q : n ≡ p = some_inj (rw (e, highest) at h) in subst (λ x. f x ≡ true) q e)
    (λ e. highest-is n f p (rw (e, highest) at h))

-- none below n passes
pub highest-none : (n : ℕ) (f : ℕ → Bool) → highest n f ≡ none → (i : ℕ) → i < n → f i ≡ false
highest-none zero f e i h = absurd (omega arith)
highest-none (suc n) f e i h = by_bool (f n)
    (λ t. absurd (clash (rw (t, highest) at e)))
    (λ t. by_bool (eqb i n) (λ k. ap f (eqb-true i n k) ∙ t) (λ k. let q = eqb-false i n k in highest-none n f (rw (t, highest) at e) i (omega arith)))
  where
    clash : ◌≡◌ {A = Option ℕ} (some n) none → ⊥
    clash p = let z : ◌≡◌ {A = ℕ} 0 1 = cc in omega arith

pub highest-lt : (n : ℕ) (f : ℕ → Bool) (p : ℕ) → highest n f ≡ some p → p < n
highest-lt zero f p h = let z : ◌≡◌ {A = ℕ} 0 1 = cc in absurd (omega arith)
highest-lt (suc n) f p h = by_bool (f n)
    (λ e. let q : n ≡ p = some_inj (rw (e, highest) at h) in omega arith)
    (λ e. let q = highest-lt n f p (rw (e, highest) at h) in omega arith)

pub highest-same : (n : ℕ) (f g : ℕ → Bool) → ((p : ℕ) → p < n → f p ≡ g p) → highest n f ≡ highest n g
highest-same zero f g h = refl
highest-same (suc n) f g h = by_bool (g n)
    (λ e. rw (h n (omega arith) ∙ e, highest, e, highest))
    (λ e. rw (h n (omega arith) ∙ e, highest, e, highest) (highest-same n f g (λ p z. h p (omega arith))))

-- none from k on passes: the scan may start at k
pub highest-upto : (n k : ℕ) (f : ℕ → Bool) → k ≤ n → ((p : ℕ) → k ≤ p → f p ≡ false) → highest n f ≡ highest k f
highest-upto zero k f l h = let e : k ≡ 0 = omega arith in rw e
highest-upto (suc n) k f l h = by_bool (eqb k (suc n))
    (λ e. let q : k ≡ suc n = eqb-true k (suc n) e in rw q)
    (λ e. let q = eqb-false k (suc n) e in rw (h n (omega arith), highest) (highest-upto n k f (omega arith) h))

-- none above the highest passes
pub highest-over : (n : ℕ) (f : ℕ → Bool) (p q : ℕ) → highest n f ≡ some p → p < q → q < n → f q ≡ false
highest-over zero f p q h a b = absurd (omega arith)
highest-over (suc n) f p q h a b = by_bool (f n)
    (λ e. let z : n ≡ p = some_inj (rw (e, highest) at h) in absurd (omega arith))
    (λ e. by_bool (eqb q n)
    (λ k. let z : q ≡ n = eqb-true q n k in rw z e)
    (λ k. let z = eqb-false q n k in highest-over n f p q (rw (e, highest) at h) a (omega arith)))

-- from all members to that of a number
pub all-at : {X : Type 0} {P : X → Type 0} (d : X) {l : List X} → All P l → (i : ℕ) → i < length l → P (get_or l i d)
all-at d nil i h = absurd (omega arith)
all-at d (cons p a) zero h = p
all-at d (cons p a) (suc i) h = all-at d a i (omega arith)

pub all_get_d : {P : List ℕ → Type 0} {st : List (List ℕ)} → All P st → (i : ℕ) → i < length st → P (get_or st i [])
all_get_d a i h = all-at [] a i h

-- to that of any number, where it holds of what is read outside
pub all_read : {X : Type 0} {P : X → Type 0} (d : X) {l : List X} → All P l → P d → (i : ℕ) → P (get_or l i d)
all_read d nil o i = o
all_read d (cons p a) o zero = p
all_read d (cons p a) o (suc i) = all_read d a o i

pub get_d-zeros : (s j : ℕ) → ◌≡◌ {A = ℕ} (get_or (replicate s 0) j 0) 0
get_d-zeros zero j = refl
get_d-zeros (suc s) zero = refl
get_d-zeros (suc s) (suc j) = get_d-zeros s j

pub all_set : {P : List ℕ → Type 0} {st : List (List ℕ)} → All P st → (i : ℕ) (v : List ℕ) → P v → All P (set st i v)
all_set nil i v q = nil
all_set (cons p a) zero v q = cons q a
all_set (cons p a) (suc i) v q = cons p (all_set a i v q)

-- ---- joining and reversing
pub length-rev : {X : Type 0} (l : List X) → length (rev l) ≡ length l
length-rev [] = refl
length-rev (x ∷ l) = length-append (rev l) (x ∷ []) ∙ let h = length-rev l in omega arith

-- ---- all members
-- one more at the end
pub all_snoc : {X : Type 0} {P : X → Type 0} {l : List X} {x : X} → All P l → P x → All P (l ++ (x ∷ []))
all_snoc nil q = cons q nil
all_snoc (cons p a) q = cons p (all_snoc a q)

-- through reversing, and back
pub all-rev : {X : Type 0} {P : X → Type 0} {l : List X} → All P l → All P (rev l)
all-rev nil = nil
all-rev (cons p a) = all_snoc (all-rev a) p

all-unsnoc : {X : Type 0} {P : X → Type 0} (l : List X) (x : X) → All P (l ++ (x ∷ [])) → P x × All P l
all-unsnoc [] x (cons p a) = (p, nil)
all-unsnoc (y ∷ l) x (cons p a) = let r = all-unsnoc l x a in (r.0, cons p r.1)

pub all-unrev : {X : Type 0} {P : X → Type 0} (l : List X) → All P (rev l) → All P l
all-unrev [] a = nil
all-unrev (x ∷ l) a = let r = all-unsnoc (rev l) x a in cons r.0 (all-unrev l r.1)

-- of both parts
pub all_append : {X : Type 0} {P : X → Type 0} {l m : List X} → All P l → All P m → All P (l ++ m)
all_append nil b = b
all_append (cons p a) b = cons p (all_append a b)

-- of copies of one
pub all_replicate : {X : Type 0} {P : X → Type 0} (k : ℕ) (x : X) → P x → All P (replicate k x)
all_replicate zero x p = nil
all_replicate (suc k) x p = cons p (all_replicate k x p)

-- of what they are mapped to
pub all-unmap : {X Y : Type 0} {Q : Y → Type 0} (f : X → Y) (xs : List X) → All Q (map f xs) → All (λ x. Q (f x)) xs
all-unmap f [] a = nil
all-unmap f (x ∷ xs) (cons h a) = cons h (all-unmap f xs a)

-- a property of the first n, and of the others
pub all_take : {X : Type 0} {P : X → Type 0} (n : ℕ) {l : List X} → All P l → All P (take n l)
all_take zero a = nil
all_take (suc n) nil = nil
all_take (suc n) (cons p a) = cons p (all_take n a)

pub all_drop : {X : Type 0} {P : X → Type 0} (n : ℕ) {l : List X} → All P l → All P (drop n l)
all_drop zero a = a
all_drop (suc n) nil = nil
all_drop (suc n) (cons p a) = all_drop n a

-- from every number of the list to all members
pub all-index : {P : ℕ → Type 0} (l : List ℕ) → ((k : ℕ) → k < length l → P (get_or l k 0)) → All P l
all-index [] h = nil
all-index (x ∷ l) h = cons (h zero (omega arith)) (all-index l (λ k q. h (suc k) (omega arith)))

-- ---- membership
-- p is none of them, one by one
pub none_has : {X : Type 0} (f : X → ℕ) (p : ℕ) (l : List X) → has p (map f l) ≡ false → All (λ x. eqb p (f x) ≡ false) l
none_has f p [] h = nil
none_has f p (x ∷ l) h = cons (or-false-l (eqb p (f x)) _ h) (none_has f p l (or-false-r (eqb p (f x)) _ h))

pub has-none : {X : Type 0} (f : X → ℕ) (p : ℕ) {l : List X} → All (λ x. eqb p (f x) ≡ false) l → has p (map f l) ≡ false
has-none f p nil = refl
has-none f p (cons h a) = rw h (has-none f p a)

-- each member is one
pub all-self : (F : List ℕ) → All (λ f. has f F ≡ true) F
all-self [] = nil
all-self (f ∷ F) = cons (or_l (eqb f f) (has f F) (eqb-self f)) (all_map (λ g h. or_r (eqb g f) (has g F) h) (all-self F))

-- what stands at a number of the list
pub get_d-has : (l : List ℕ) (k : ℕ) → k < length l → has (get_or l k 0) l ≡ true
get_d-has [] k h = absurd (omega arith)
get_d-has (x ∷ l) zero h = or_l (eqb x x) (has x l) (eqb-self x)
get_d-has (x ∷ l) (suc k) h = or_r (eqb (get_or l k 0) x) (has (get_or l k 0) l) (get_d-has l k (omega arith))

-- nothing from n on lies among places below n
pub has-low : (i n : ℕ) → n ≤ i → {c : List ℕ} → All (λ p. p < n) c → has i c ≡ false
has-low i n h nil = refl
has-low i n h (cons {x = q} {l = c} l ls) = rw (eqb_comm i q, eqb-lt q i (omega arith)) (has-low i n h ls)

-- in one of two parts
pub has-append-r : (p : ℕ) (l m : List ℕ) → has p m ≡ true → has p (l ++ m) ≡ true
has-append-r p [] m h = h
has-append-r p (x ∷ l) m h = or_r (eqb p x) (has p (l ++ m)) (has-append-r p l m h)

pub has-append-l : (p : ℕ) (l m : List ℕ) → has p l ≡ true → has p (l ++ m) ≡ true
has-append-l p [] m h = absurd (false≢true h)
has-append-l p (x ∷ l) m h = by_bool (eqb p x) (λ e. rw e) (λ e. rw e (has-append-l p l m (rw e at h)))

-- in neither part
pub has-append-none : (p : ℕ) (l m : List ℕ) → has p l ≡ false → has p m ≡ false → has p (l ++ m) ≡ false
has-append-none p [] m h k = k
has-append-none p (q ∷ l) m h k = rw (or-false-l (eqb p q) (has p l) h) (has-append-none p l m (or-false-r (eqb p q) (has p l) h) k)

-- what passes the filter stays
pub has_kept : (f : ℕ → Bool) (p : ℕ) (c : List ℕ) → f p ≡ true → has p c ≡ true → has p (filter f c) ≡ true
has_kept f p [] t h = h
has_kept f p (q ∷ c) t h = by_bool (eqb p q)
    (λ e. let u : f q ≡ true = ap f (sym (eqb-true p q e)) ∙ t in rw (u, filter) (rw e))
    (λ e. by_bool (f q)
    (λ u. rw (u, filter) (rw e (has_kept f p c t (rw e at h))))
    (λ u. rw (u, filter) (has_kept f p c t (rw e at h))))

-- membership in a list with one more at the end
has-snoc-l : (p x : ℕ) (l : List ℕ) → has p l ≡ true → has p (l ++ (x ∷ [])) ≡ true
has-snoc-l p x [] h = absurd (false≢true h)
has-snoc-l p x (y ∷ l) h = by_bool (eqb p y) (λ e. rw e) (λ e. rw e (has-snoc-l p x l (rw e at h)))

-- the one at the end
has-snoc-r : (p : ℕ) (l : List ℕ) → has p (l ++ (p ∷ [])) ≡ true
has-snoc-r p [] = rw (eqb-self p)
has-snoc-r p (y ∷ l) = or_r (eqb p y) _ (has-snoc-r p l)

-- every place below n is listed
pub low-has : (n p : ℕ) → p < n → has p (rev (below n)) ≡ true
low-has zero p h = absurd (omega arith)
low-has (suc n) p h = by_bool (eqb p n)
    (λ e. subst (λ x. has p (rev (below n) ++ (x ∷ [])) ≡ true) (eqb-true p n e) (has-snoc-r p (rev (below n))))
    (λ e. let ne = eqb-false p n e in has-snoc-l p n (rev (below n)) (low-has n p (omega arith)))

-- ---- without repeats, and through a filter
has-snoc : (p x : ℕ) (l : List ℕ) → has p l ≡ false → eqb p x ≡ false → has p (l ++ (x ∷ [])) ≡ false
has-snoc p x [] h e = rw e
has-snoc p x (y ∷ l) h e = ap₂ ◌||◌ (or-false-l (eqb p y) (has p l) h) (has-snoc p x l (or-false-r (eqb p y) (has p l) h) e)

-- none of them, reversed
has-rev : (p : ℕ) (l : List ℕ) → has p l ≡ false → has p (rev l) ≡ false
has-rev p [] h = refl
has-rev p (x ∷ l) h = has-snoc p x (rev l) (has-rev p l (or-false-r (eqb p x) (has p l) h)) (or-false-l (eqb p x) (has p l) h)

distinct_snoc : {l : List ℕ} (x : ℕ) → Distinct l → has x l ≡ false → Distinct (l ++ (x ∷ []))
distinct_snoc x dnil h = dnew refl dnil
distinct_snoc x (dnew {x = y} {l = l} k d) h = dnew (has-snoc y x l k (eqb_comm y x ∙ or-false-l (eqb x y) (has x l) h)) (distinct_snoc x d (or-false-r (eqb x y) (has x l) h))

-- through reversing
pub distinct-rev : {l : List ℕ} → Distinct l → Distinct (rev l)
distinct-rev dnil = dnil
distinct-rev (dnew {x = x} {l = l} h d) = distinct_snoc x (distinct-rev d) (has-rev x l h)

-- none of them, filtered
has-filter-out : (f : ℕ → Bool) (p : ℕ) (c : List ℕ) → has p c ≡ false → has p (filter f c) ≡ false
has-filter-out f p [] e = refl
has-filter-out f p (q ∷ c) e = by_bool (f q)
    (λ t. rw (t, filter) (ap₂ ◌||◌ (or-false-l (eqb p q) (has p c) e) (has-filter-out f p c (or-false-r (eqb p q) (has p c) e))))
    (λ t. rw (t, filter) (has-filter-out f p c (or-false-r (eqb p q) (has p c) e)))

-- through a filter
pub distinct_filter : (f : ℕ → Bool) {c : List ℕ} → Distinct c → Distinct (filter f c)
distinct_filter f dnil = dnil
distinct_filter f (dnew {x = q} {l = c} h d) = by_bool (f q)
    (λ t. rw (t, filter) (dnew (has-filter-out f q c h) (distinct_filter f d)))
    (λ t. rw (t, filter) (distinct_filter f d))

has-below : (p n : ℕ) → n ≤ p → has p (below n) ≡ false
has-below p zero h = refl
has-below p (suc n) h = ap₂ ◌||◌ (by_bool (eqb p n) (λ e. let k = eqb-true p n e in absurd (omega arith)) (λ e. e)) (has-below p n (omega arith))

-- the places below n
pub distinct-below : (n : ℕ) → Distinct (below n)
distinct-below zero = dnil
distinct-below (suc n) = dnew (has-below n n (omega arith)) (distinct-below n)

-- what holds of all that pass
pub filter-back : {P : ℕ → Type 0} (f : ℕ → Bool) (c : List ℕ) → All P (filter f c) → All (λ x. f x ≡ true → P x) c
filter-back f [] a = nil
filter-back {P} f (q ∷ c) a = by_bool (f q) (λ t. on t (rw (t, filter) at a) (λ b. filter-back f c b)) (λ t. cons (λ h. absurd (true≢false (sym h ∙ t))) (filter-back f c (rw (t, filter) at a)))
  where
    on : f q ≡ true → All P (q ∷ filter f c) → (All P (filter f c) → All (λ x. f x ≡ true → P x) c) → All (λ x. f x ≡ true → P x) (q ∷ c)
    on t (cons p b) k = cons (λ h. p) (k b)

-- the comparison of a list with itself
pub same_self : (l : List ℕ) → same_list l l ≡ true
same_self [] = refl
same_self (x ∷ l) = ap₂ ◌&&◌ (eqb-self x) (same_self l)

-- the comparison, one way
pub same-sound : (a b : List ℕ) → same_list a b ≡ true → a ≡ b
same-sound [] [] h = refl
same-sound [] (y ∷ b) h = absurd (false≢true h)
same-sound (x ∷ a) [] h = absurd (false≢true h)
same-sound (x ∷ a) (y ∷ b) h = by_bool (eqb x y)
    (λ e. ap₂ ◌∷◌ (eqb-true x y e) (same-sound a b (rw e at h)))
    (λ e. absurd (false≢true (rw e at h)))

-- ---- a filter of two parts; where all pass, or none; by another test
pub filter-append : (f : ℕ → Bool) (a b : List ℕ) → filter f (a ++ b) ≡ filter f a ++ filter f b
filter-append f [] b = refl
filter-append f (x ∷ a) b = by_bool (f x) (λ e. rw e (ap (λ l. x ∷ l) (filter-append f a b))) (λ e. rw e (filter-append f a b))

pub filter-all : (f : ℕ → Bool) {l : List ℕ} → All (λ x. f x ≡ true) l → filter f l ≡ l
filter-all f nil = refl
filter-all f (cons {x = x} h a) = rw h (ap (λ l. x ∷ l) (filter-all f a))

pub filter_none : (f : ℕ → Bool) {l : List ℕ} → All (λ x. f x ≡ false) l → filter f l ≡ []
filter_none f nil = refl
filter_none f (cons h a) = rw h (filter_none f a)

pub filter_same : (f g : ℕ → Bool) {l : List ℕ} → All (λ x. f x ≡ g x) l → filter f l ≡ filter g l
filter_same f g nil = refl
filter_same f g (cons {x = x} {l = l} e a) = ap₂ (λ b r. cond b (x ∷ r) r) e (filter_same f g a)

-- no more pass than there are
pub filter-less : (f : ℕ → Bool) (c : List ℕ) → length (filter f c) ≤ length c
filter-less f [] = omega arith
filter-less f (x ∷ c) = let h = filter-less f c in by_bool (f x) (λ e. rw e (omega arith)) (λ e. rw e (omega arith))

-- ---- a member of two parts; no member above all, or of none
pub has-append : (p : ℕ) (l m : List ℕ) → has p (l ++ m) ≡ (has p l || has p m)
has-append p [] m = refl
has-append p (q ∷ l) m = ap (λ b. eqb p q || b) (has-append p l m) ∙ sym (or_assoc (eqb p q) (has p l) (has p m))

pub has_above : (q : ℕ) {l : List ℕ} → All (λ p. p < q) l → has q l ≡ false
has_above q nil = refl
has_above q (cons {x = p} h a) = rw (eqb-gt q p h) (has_above q a)

pub has-empty : (l : List ℕ) → length l ≡ 0 → (p : ℕ) → has p l ≡ false
has-empty [] h p = refl
has-empty (x ∷ l) h p = absurd (omega arith)

-- members that two functions take to the same
pub map_same : {X Y : Type 0} (f g : X → Y) {l : List X} → All (λ x. f x ≡ g x) l → map f l ≡ map g l
map_same f g nil = refl
map_same f g (cons h a) = ap₂ ◌∷◌ h (map_same f g a)

-- what stands at a number of a mapped list
pub map_at : {X Y : Type 0} (f : X → Y) (l : List X) (j : ℕ) (e : X) (d : Y) → j < length l → get_or (map f l) j d ≡ f (get_or l j e)
map_at f [] j e d h = absurd (omega arith)
map_at f (x ∷ l) zero e d h = refl
map_at f (x ∷ l) (suc j) e d h = map_at f l j e d (omega arith)

-- ---- a test that every member passes, and one that none does
pub all_pass_lem : {X : Type 0} (f : X → Bool) {l : List X} → All (λ x. f x ≡ true) l → all_pass f l ≡ true
all_pass_lem f nil = refl
all_pass_lem f (cons h a) = rw h (all_pass_lem f a)

pub pass_all : {X : Type 0} (f : X → Bool) (l : List X) → all_pass f l ≡ true → All (λ x. f x ≡ true) l
pass_all f [] h = nil
pass_all f (x ∷ l) h = cons (and_l (f x) (all_pass f l) h) (pass_all f l (and_r (f x) (all_pass f l) h))

pub any_none : {X : Type 0} (f : X → Bool) {l : List X} → All (λ x. f x ≡ false) l → any_of f l ≡ false
any_none f nil = refl
any_none f (cons h a) = rw h (any_none f a)

pub none_any : {X : Type 0} (f : X → Bool) (l : List X) → any_of f l ≡ false → All (λ x. f x ≡ false) l
none_any f [] h = nil
none_any f (x ∷ l) h = cons (or-false-l (f x) (any_of f l) h) (none_any f l (or-false-r (f x) (any_of f l) h))
