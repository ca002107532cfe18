-- Laws of rows by their highest places: a row reduced from its highest place down is zero just if it is the sum of some of the rows.
use Rattle.std.specs.Prelude.{◌≡◌, refl, Bool, true, false, ◌||◌, List, [], ◌∷◌, ◌++◌, ℕ, zero, suc, ◌+◌, ◌-◌, ◌^◌, ◌<◌, ◌≤◌, eqb, ltb, length, get_or, take, drop}
use Rattle.std.proofs.Common.{sym, ap, ap₂, ◌∙◌, subst, true≢false, append_assoc, arith, length-take, pow_pos, pow_mono, get_or-drop, get_or-take, ltb-true, ltb-false}
use Rattle.std.proofs.lemmas.Bool.{false≢true}
use Rattle.std.specs.Int.Bits.{bit_xor, xor_zero_l}
use Rattle.std.proofs.lemmas.Nat.{xor_lt}
use Rattle.std.proofs.Math.Pow.{pow-lt}
use Rattle.gf2.specs.Bit.{bit-adds, bit-zero, bit_high}
use Rattle.gf2.specs.Columns.{is_zero-sound}
use Rattle.gf2.specs.Gf2.{bit, Short, Bits, Lead, rows_of, sums, down, path, is_zero, xor_group, sum_over, row_of}
use Rattle.gf2.specs.Group.{zr, cancel-mid, cancel-r, left_comm}
use Rattle.gf2.specs.Span.{Span, span-zero, span-add, span_head, span_tail, is_sum-sound, is_sum-complete}
use Rattle.lists.specs.ListLaws.{below_of, map-all, all_map}
use Rattle.lists.specs.Lists.{bxor, All, All.nil, All.cons}
use Rattle.lists.specs.Tests.{eqb-true, eqb-false, by_bool}

-- ---- a row that has no place from l on
pub short-more : {l k x : ℕ} → Short l x → l ≤ k → Short k x
short-more s h = record { above = λ q z. s.above q (omega arith) }

pub bits-le : {l b x : ℕ} → Short l x → Bits x b → b ≤ l
bits-le {l} {b} {x} s t = by_bool (ltb l b)
    (λ k. let h = ltb-true l b k in absurd (true≢false (sym (t.last (omega arith)) ∙ s.above (b - 1) (omega arith))))
    (λ k. ltb-false l b k)

-- both have the highest place: the sum does not
pub short-sum : (a x l : ℕ) → 0 < l → Short l a → Short l x → bit (l - 1) a ≡ true → bit (l - 1) x ≡ true → Short (l - 1) (bit_xor a x)
short-sum a x l h s t p q = record {
  above = λ i z. bit-adds i a x ∙ by_bool (eqb i (l - 1))
      (λ k. let e : i ≡ l - 1 = eqb-true i (l - 1) k in rw e (ap₂ bxor p q))
      (λ k. let e = eqb-false i (l - 1) k in ap₂ bxor (s.above i (omega arith)) (t.above i (omega arith)));
}

pub short-lt : (n x : ℕ) → x < 2 ^ n → Short n x
short-lt n x h = record { above = λ q z. let m = pow_mono {i = n} {j = q} z in bit_high q x (omega arith) }

row_low : (n : ℕ) (l : List ℕ) → ((i : ℕ) → i < length l → get_or l i 0 < n) → row_of l < 2 ^ n
row_low n [] h = pow_pos n
row_low n (p ∷ l) h = xor_lt n (2 ^ p) (row_of l) (pow-lt (h 0 (omega arith))) (row_low n l (λ i z. h (suc i) (omega arith)))

-- the row of some places
pub list-short : (l : List ℕ) (n : ℕ) → ((i : ℕ) → i < length l → get_or l i 0 < n) → Short n (row_of l)
list-short l n h = short-lt n _ (row_low n l h)

-- the row of wt places of t from at
pub places-short : (t : List ℕ) (at wt n : ℕ) → ((i : ℕ) → i < wt → get_or t (at + i) 0 < n) → Short n (row_of (take wt (drop at t)))
places-short t at wt n h = list-short (take wt (drop at t)) n (λ j z.
    let zw : j < wt = omega (arith, simp length-take at z) in
    subst (λ (y : ℕ). y < n) (sym (get_or-take wt (drop at t) j 0 zw ∙ get_or-drop at t j 0)) (h j zw))

-- ---- sums of some of the rows
pub sums-sound : (R : List ℕ) (x : ℕ) → sums R x ≡ true → Span xor_group R x
sums-sound = is_sum-sound xor_group is_zero is_zero-sound refl

pub sums-complete : (R : List ℕ) (x : ℕ) → Span xor_group R x → sums R x ≡ true
sums-complete = is_sum-complete xor_group is_zero is_zero-sound refl

-- ---- a place that no row has, no sum has
or-none : (a b : Bool) → (a ≡ true → ⊥) → (b ≡ true → ⊥) → (a || b) ≡ false
or-none true b f g = absurd (f refl)
or-none false true f g = absurd (g refl)
or-none false false f g = refl

pub sum-bit : (q : ℕ) {R : List ℕ} → All (λ r. bit q r ≡ false) R → (z : ℕ) → sums R z ≡ true → bit q z ≡ false
sum-bit q nil z h = ap (bit q) (is_zero-sound z h) ∙ bit-zero q
sum-bit q (cons {x = r} {l = R} e a) z h = by_bool (sums R z)
    (λ k. sum-bit q a z k)
    (λ k. sym (ap (λ b. bxor b (bit q z)) e) ∙ sym (bit-adds q r z) ∙ sum-bit q a (bit_xor r z) (rw k at h))

pub no-sum : (q : ℕ) {R : List ℕ} → All (λ r. bit q r ≡ false) R → (z : ℕ) → bit q z ≡ true → sums R z ≡ false
no-sum q {R} a z h = by_bool (sums R z) (λ k. absurd (true≢false (sym h ∙ sum-bit q a z k))) (λ k. k)

-- ---- rows by their highest places
-- none of those that lead a place below n has place n
pub rows-low : {f : ℕ → ℕ} (n : ℕ) → Lead f → All (λ r. bit n r ≡ false) (rows_of f n)
rows-low {f} n l = map-all f (below_of n (λ p h. l.low p n h))

pub bit-nonzero : (p x : ℕ) → bit p x ≡ true → is_zero x ≡ false
bit-nonzero p x h = by_bool (is_zero x) (λ k. absurd (true≢false (sym h ∙ ap (bit p) (is_zero-sound x k) ∙ bit-zero p))) (λ k. k)

or_same : (a b : Bool) → b ≡ a → (a || b) ≡ a
or_same true b e = refl
or_same false b e = e

or_left : (a b : Bool) → b ≡ false → (a || b) ≡ a
or_left true b e = refl
or_left false b e = e

or_right : (a b : Bool) → a ≡ false → (a || b) ≡ b
or_right true b e = absurd (true≢false e)
or_right false b e = refl

zero-add : (a x : ℕ) → is_zero a ≡ true → bit_xor a x ≡ x
zero-add a x h = ap (λ (y : ℕ). bit_xor y x) (is_zero-sound a h) ∙ xor_zero_l x

-- reduced to zero just if it is the sum of some
pub down-test : {f : ℕ → ℕ} → Lead f → (n x : ℕ) → is_zero (down f n x) ≡ sums (rows_of f n) x
unfolding down
down-test l zero x = refl
down-test {f} l (suc p) x = by_bool (bit p x)
    (λ b. by_bool (is_zero (f p))
    (λ z. rw (b, down, z) (bit-nonzero p x b ∙ sym (or-none _ _
    (λ k. true≢false (sym k ∙ no-sum p (rows-low p l) x b))
    (λ k. true≢false (sym k ∙ no-sum p (rows-low p l) (bit_xor (f p) x) (ap (bit p) (zero-add (f p) x z) ∙ b))))))
    (λ z. rw (b, down, z) (down-test l p (bit_xor (f p) x) ∙ sym (or_right _ _ (no-sum p (rows-low p l) x b)))))
    (λ b. rw (b, down) (down-test l p x ∙ sym (by_bool (is_zero (f p))
    (λ z. or_same _ _ (ap (sums (rows_of f p)) (zero-add (f p) x z)))
    (λ z. or_left _ _ (no-sum p (rows-low p l) (bit_xor (f p) x) (bit-adds p (f p) x ∙ ap₂ bxor (l.own p z) b))))))

-- what was added is a sum of the rows
pub down-in : (f : ℕ → ℕ) (n x : ℕ) → Span xor_group (rows_of f n) (bit_xor (down f n x) x)
unfolding down
down-in f zero x = subst (Span xor_group []) (sym (xor_group.self x)) (span-zero xor_group)
down-in f (suc p) x = by_bool (bit p x)
    (λ b. by_bool (is_zero (f p))
    (λ z. rw (b, down, z) (subst (Span xor_group (rows_of f (suc p))) (sym (xor_group.self x)) (span-zero xor_group)))
    (λ z. rw (b, down, z) (subst (Span xor_group (rows_of f (suc p)))
    (cancel-mid xor_group (down f p (bit_xor (f p) x)) (bit_xor (f p) x) x)
    (span-add xor_group (span_tail xor_group (down-in f p (bit_xor (f p) x))) (subst (Span xor_group (rows_of f (suc p))) (sym (cancel-r xor_group (f p) x)) (span_head xor_group))))))
    (λ b. rw (b, down) (span_tail xor_group (down-in f p x)))

-- .. the sum of those that lead the places of the path
pub down-path : (f : ℕ → ℕ) (n x : ℕ) → down f n x ≡ bit_xor x (sum_over xor_group f (path f n x))
unfolding down path
down-path f zero x = sym (zr xor_group x)
down-path f (suc p) x = by_bool (bit p x)
    (λ b. by_bool (is_zero (f p))
    (λ z. rw (b, down, path, z) (sym (zr xor_group x)))
    (λ z. rw (b, down, path, z) (down-path f p (bit_xor (f p) x) ∙ xor_group.assoc (f p) x _ ∙ left_comm xor_group (f p) x _)))
    (λ b. rw (b, down, path) (down-path f p x))

-- the places of the path lead rows and lie below n
pub path-leads : (f : ℕ → ℕ) (n x : ℕ) → All (λ q. is_zero (f q) ≡ false) (path f n x)
unfolding path
path-leads f zero x = nil
path-leads f (suc p) x = by_bool (bit p x)
    (λ b. by_bool (is_zero (f p))
    (λ z. rw (b, path, z) nil)
    (λ z. rw (b, path, z) (cons z (path-leads f p (bit_xor (f p) x)))))
    (λ b. rw (b, path) (path-leads f p x))

pub path-low : (f : ℕ → ℕ) (n x : ℕ) → All (λ q. q < n) (path f n x)
unfolding path
path-low f zero x = nil
path-low f (suc p) x = by_bool (bit p x)
    (λ b. by_bool (is_zero (f p))
    (λ z. rw (b, path, z) nil)
    (λ z. rw (b, path, z) (cons {x = p} (omega arith) (all_map (λ q l. less q l) (path-low f p (bit_xor (f p) x))))))
    (λ b. rw (b, path) (all_map (λ q l. less q l) (path-low f p x)))
  where
    less : (q : ℕ) → q < p → q < suc p
    less q l = omega arith

-- ---- on the way from place n down to place l: x becomes y, and ps is the path so far
pub record Passed (f : ℕ → ℕ) (n x l y : ℕ) (ps : List ℕ) : Type 0 where
  pub row : down f n x ≡ down f l y
  pub way : path f n x ≡ ps ++ path f l y

pub passed_then : {f : ℕ → ℕ} {n x m y l z : ℕ} {ps qs : List ℕ} → Passed f n x m y ps → Passed f m y l z qs → Passed f n x l z (ps ++ qs)
passed_then {f} {l = l} {z = z} {ps = ps} {qs = qs} a b = record { row = a.row ∙ b.row; way = a.way ∙ ap (λ r. ps ++ r) b.way ∙ sym (append_assoc ps qs (path f l z)) }

-- places that x does not have are passed over
pub passed-skip : (f : ℕ → ℕ) (x l n : ℕ) → l ≤ n → Short l x → Passed f n x l x []
unfolding down path
passed-skip f x l zero h s = let e : l ≡ 0 = omega arith in record { row = rw e; way = rw e }
passed-skip f x l (suc n) h s = by_bool (eqb l (suc n))
    (λ k. let e : l ≡ suc n = eqb-true l (suc n) k in record { row = rw e; way = rw e })
    (λ k. let e = eqb-false l (suc n) k in
    let b = s.above n (omega arith) in
    let r = passed-skip f x l n (omega arith) s in
    record { row = rw (b, down) r.row; way = rw (b, path) r.way })

-- a row that leads the highest place is added
pub passed-step : (f : ℕ → ℕ) (x l : ℕ) → 0 < l → bit (l - 1) x ≡ true → is_zero (f (l - 1)) ≡ false → Passed f l x (l - 1) (bit_xor (f (l - 1)) x) ((l - 1) ∷ [])
unfolding down path
passed-step f x zero h b z = absurd (omega arith)
passed-step f x (suc p) h b z =
    let e : suc p - 1 ≡ p = omega arith in
    record { row = rw (e, rw e at b, down, rw e at z); way = rw (e, rw e at b, path, rw e at z) }

-- the end: no row leads the highest place, or there is none
pub record Ended (f : ℕ → ℕ) (l x : ℕ) : Type 0 where
  pub row : down f l x ≡ x
  pub way : path f l x ≡ []

pub ended-stop : (f : ℕ → ℕ) (x l : ℕ) → 0 < l → bit (l - 1) x ≡ true → is_zero (f (l - 1)) ≡ true → Ended f l x
unfolding down path
ended-stop f x zero h b z = absurd (omega arith)
ended-stop f x (suc p) h b z =
    let e : suc p - 1 ≡ p = omega arith in
    record { row = rw (rw e at b, down, rw e at z); way = rw (rw e at b, path, rw e at z) }

pub ended-zero : (f : ℕ → ℕ) (x : ℕ) → Ended f 0 x
unfolding down path
ended-zero f x = record { row = refl; way = refl }

-- ---- one row more
or-four : (a b c d : Bool) → ((a || b) || (c || d)) ≡ ((a || c) || (b || d))
or-four true b c d = refl
or-four false true true d = refl
or-four false true false d = refl
or-four false false true d = refl
or-four false false false d = refl

pub same_rows : {f g : ℕ → ℕ} (n : ℕ) → ((p : ℕ) → p < n → g p ≡ f p) → rows_of g n ≡ rows_of f n
same_rows zero h = refl
same_rows {f} {g} (suc n) h = ap₂ (λ (r : ℕ) (R : List ℕ). r ∷ R) (h n (omega arith)) (same_rows n (λ p l. h p (omega arith)))

pub sums-zero : (r : ℕ) (R : List ℕ) (x : ℕ) → r ≡ 0 → sums (r ∷ R) x ≡ sums R x
sums-zero r R x e = or_same (sums R x) (sums R (bit_xor r x)) (ap (λ (y : ℕ). sums R (bit_xor y x)) e ∙ ap (sums R) (xor_zero_l x))

pub sums_none : {f : ℕ → ℕ} (n : ℕ) → ((p : ℕ) → f p ≡ 0) → (x : ℕ) → sums (rows_of f n) x ≡ sums [] x
sums_none zero h x = refl
sums_none {f} (suc n) h x = sums-zero (f n) (rows_of f n) x (h n) ∙ sums_none n h x

pub one_more : {f g : ℕ → ℕ} (q y n : ℕ) → q < n → ((p : ℕ) → (p ≡ q → ⊥) → g p ≡ f p) → g q ≡ y → f q ≡ 0 → (x : ℕ)
    → sums (rows_of g n) x ≡ (sums (rows_of f n) x || sums (rows_of f n) (bit_xor y x))
one_more q y zero h s e z x = absurd (omega arith)
one_more {f} {g} q y (suc n) h s e z x = by_bool (eqb q n)
    (λ k. let i : q ≡ n = eqb-true q n k in
    let gn : g n ≡ y = ap g (sym i) ∙ e in
    let fn : f n ≡ 0 = ap f (sym i) ∙ z in
    ap₂ (λ (r : ℕ) (R : List ℕ). sums (r ∷ R) x) gn (same_rows n (λ p l. s p (λ (o : p ≡ q). omega arith)))
    ∙ sym (ap₂ ◌||◌ (sums-zero (f n) (rows_of f n) x fn) (sums-zero (f n) (rows_of f n) (bit_xor y x) fn)))
    (λ k. let i = eqb-false q n k in
    let o : (w : ℕ) → sums (rows_of g n) w ≡ (sums (rows_of f n) w || sums (rows_of f n) (bit_xor y w)) = one_more q y n (omega arith) s e z in
    ap (λ (r : ℕ). sums (r ∷ rows_of g n) x) (s n (λ (j : n ≡ q). omega arith))
    ∙ ap₂ ◌||◌ (o x) (o (bit_xor (f n) x))
    ∙ or-four (sums (rows_of f n) x) (sums (rows_of f n) (bit_xor y x)) (sums (rows_of f n) (bit_xor (f n) x)) (sums (rows_of f n) (bit_xor y (bit_xor (f n) x)))
    ∙ ap (λ (w : ℕ). (sums (rows_of f n) x || sums (rows_of f n) (bit_xor (f n) x)) || (sums (rows_of f n) (bit_xor y x) || sums (rows_of f n) w)) (left_comm xor_group y (f n) x))

-- a sum of the rows added changes nothing
pub sums-shift : (R : List ℕ) (a b x : ℕ) → Span xor_group R (bit_xor a b) → sums R (bit_xor a x) ≡ sums R (bit_xor b x)
sums-shift R a b x s = by_bool (sums R (bit_xor b x))
    (λ k. sums-complete R (bit_xor a x) (subst (Span xor_group R) (cancel-mid xor_group a b x) (span-add xor_group s (sums-sound R (bit_xor b x) k))) ∙ sym k)
    (λ k. by_bool (sums R (bit_xor a x))
    (λ j. absurd (false≢true (sym k ∙ sums-complete R (bit_xor b x) (subst (Span xor_group R) (cancel-mid xor_group b a x)
    (span-add xor_group (subst (Span xor_group R) (xor_group.comm a b) s) (sums-sound R (bit_xor a x) j))))))
    (λ j. j ∙ sym k))
