-- Laws of flipping: one bit, one number more, one list more.
use mathlib.Core.Path.{◌≡◌, refl, sym, ap, ap₂, ◌∙◌, subst}
use mathlib.Core.Bool.{Bool, true, false, ◌&&◌}
use mathlib.Core.List.{List, [], ◌∷◌, ◌++◌}
use Prim.Native.Nat.{ℕ, suc, ◌+◌, ◌*◌, ◌-◌, ◌/◌, ◌%◌, ◌^◌, ◌<◌, ◌≤◌}
use native.Mathlib.Numerals.{add-one}
use native.Mathlib.Omega.{arith}
use borrow.Author.Tests.{ne_eqb, eq-eqb, lt-ltb, le-ltb, ltb-true, ltb-false}
use lib.Bits.{bit_xor}
use lib.Dec.{eqb, ltb}
use lib.ListN.{length, get_or, take}
use lib.Seq.{take-suc}
use Rattle.lists.specs.Lists.{bxor, par}
use Rattle.lists.specs.Tests.{by_bool, bxor-assoc, bxor-comm, eqb-true, eqb-false}
use Rattle.gf2.specs.Gf2.{bit}
use Rattle.bits.specs.Row.{row, RowPut}
use Rattle.bits.specs.RowLaws.{flip-bit, row_other}
use Rattle.tiles.specs.Board.{on, Flips, named, in_column, in_columns, turned}

-- ---- one bit
-- f and g name the same bits
abbrev pub Same : (ℕ → ℕ → Bool) → (ℕ → ℕ → Bool) → Type 0
Same f g = (i q : ℕ) → i < 1024 → q < 1024 → f i q ≡ g i q

pub flip_one : {w e : List ℕ} {r : ℕ} (p : ℕ) → RowPut w r (bit_xor (row w r) (2 ^ p)) e → Flips w (λ i q. eqb i r && eqb q p) e
flip_one {w} {e} {r} p put = record { len = put.len; each = λ i q h k. by_bool (eqb i r) (here i q) (there i q) }
  where
    here : (i q : ℕ) → eqb i r ≡ true → on e i q ≡ bxor (eqb i r && eqb q p) (on w i q)
    here i q t = let a = eqb-true i r t in
        ap (λ x. on e x q) a ∙ flip-bit p put q
        ∙ ap₂ (λ x y. bxor (x && eqb q p) (on w y q)) (sym t) (sym a)

    there : (i q : ℕ) → eqb i r ≡ false → on e i q ≡ bxor (eqb i r && eqb q p) (on w i q)
    there i q t = ap (bit q) (row_other put i (eqb-false i r t)) ∙ ap (λ x. bxor (x && eqb q p) (on w i q)) (sym t)

-- no bit
pub flips-none : (w : List ℕ) (f : ℕ → ℕ → Bool) → ((i q : ℕ) → f i q ≡ false) → Flips w f w
flips-none w f h = record { len = refl; each = λ i q a b. sym (ap (λ x. bxor x (on w i q)) (h i q)) }

-- the same bits
pub flips-as : {w e : List ℕ} {f g : ℕ → ℕ → Bool} → Flips w f e → Same g f → Flips w g e
flips-as {w} {e} {f} {g} p h = record { len = p.len; each = λ i q a b. p.each i q a b ∙ ap (λ x. bxor x (on w i q)) (sym (h i q a b)) }

-- bits, and then others
pub flips-both : {w e u : List ℕ} {f g : ℕ → ℕ → Bool} → Flips w f e → Flips e g u → Flips w (λ i q. bxor (g i q) (f i q)) u
flips-both {w} {e} {u} {f} {g} p n = record {
  len = n.len ∙ p.len;
  each = λ i q a b. n.each i q a b ∙ ap (bxor (g i q)) (p.each i q a b) ∙ sym (bxor-assoc (g i q) (f i q) (on w i q));
}

-- ---- one number more
-- how often a number stands there, with one more
pub par-snoc : (y : ℕ) (l : List ℕ) (x : ℕ) → par y (l ++ (x ∷ [])) ≡ bxor (eqb y x) (par y l)
par-snoc y [] x = refl
par-snoc y (z ∷ l) x = ap (bxor (eqb y z)) (par-snoc y l x)
    ∙ sym (bxor-assoc (eqb y z) (eqb y x) (par y l)) ∙ ap (λ b. bxor b (par y l)) (bxor-comm (eqb y z) (eqb y x)) ∙ bxor-assoc (eqb y x) (eqb y z) (par y l)

pub par-next : (y : ℕ) (l : List ℕ) (i v : ℕ) → i < length l → v ≡ get_or l i 0 → par y (take (i + 1) l) ≡ bxor (eqb y v) (par y (take i l))
par-next y l i v h e = ap (par y) (ap (λ k. take k l) (add-one i) ∙ take-suc l i 0 h) ∙ par-snoc y (take i l) (get_or l i 0) ∙ ap (λ x. bxor (eqb y x) (par y (take i l))) (sym e)

-- by the number alone
named-bit : (x : ℕ) → Same (λ i q. eqb (i * 1024 + q) x) (λ i q. eqb i (x / 1024) && eqb q (x % 1024))
named-bit x i q a b = by_bool (eqb (i * 1024 + q) x)
    (λ t. let e = eqb-true (i * 1024 + q) x t in
    t ∙ sym (ap₂ ◌&&◌ (eq-eqb i (x / 1024) (omega arith)) (eq-eqb q (x % 1024) (omega arith))))
    (λ f. let n = eqb-false (i * 1024 + q) x f in f ∙ by_bool (eqb i (x / 1024))
    (λ t. let e = eqb-true i (x / 1024) t in sym (ap₂ ◌&&◌ t (ne_eqb q (x % 1024) (λ z. n (whole e z)))))
    (λ t. sym (ap (λ y. y && eqb q (x % 1024)) t)))
  where
    whole : i ≡ x / 1024 → q ≡ x % 1024 → i * 1024 + q ≡ x
    whole e z = omega arith

pub named-next : {w e u : List ℕ} (l : List ℕ) (i v : ℕ) → i < length l → v ≡ get_or l i 0 → Flips w (named (take i l)) e
    → RowPut e (v / 1024) (bit_xor (row e (v / 1024)) (2 ^ (v % 1024))) u → Flips w (named (take (i + 1) l)) u
named-next l i v h e p n = flips-as (flips-both p (flip_one (v % 1024) n))
    (λ k q a b. par-next (k * 1024 + q) l i v h e ∙ ap (λ x. bxor x (named (take i l) k q)) (named-bit v k q a b))

pub named_none : (w : List ℕ) → Flips w (named []) w
named_none w = flips-none w (named []) (λ i q. refl)

-- ---- in columns, or else in rows
pub turned_as : (c : Bool) {f g : ℕ → ℕ → Bool} → ((i q : ℕ) → f i q ≡ g i q) → Same (turned c f) (turned c g)
turned_as true h i q a b = h i q
turned_as false h i q a b = h q i

turned-bxor : (c : Bool) (f g : ℕ → ℕ → Bool) (i q : ℕ) → turned c (λ i q. bxor (g i q) (f i q)) i q ≡ bxor (turned c g i q) (turned c f i q)
turned-bxor true f g i q = refl
turned-bxor false f g i q = refl

-- bits, and then others
pub turned-both : {w e u : List ℕ} (c : Bool) (f g h : ℕ → ℕ → Bool) → Flips w (turned c f) e → Flips e (turned c g) u → ((i q : ℕ) → h i q ≡ bxor (g i q) (f i q)) → Flips w (turned c h) u
turned-both c f g h p n s = flips-as (flips-both p n) (λ i q a b. turned_as c s i q a b ∙ turned-bxor c f g i q)

pub turned_none : (w : List ℕ) (c : Bool) (f : ℕ → ℕ → Bool) → ((i q : ℕ) → f i q ≡ false) → Flips w (turned c f) w
turned_none w true f h = flips-none w (turned true f) h
turned_none w false f h = flips-none w (turned false f) (λ i q. h q i)

-- the bit of one entry
entry_row : (x low span k i : ℕ) → low < x → k ≡ x - low - 1 → k < span → eqb i k ≡ (ltb i span && eqb (low + suc i) x)
entry_row x low span k i h e l = by_bool (eqb i k)
    (λ t. let z = eqb-true i k t in t ∙ sym (ap₂ ◌&&◌ (lt-ltb i span (omega arith)) (eq-eqb (low + suc i) x (omega arith))))
    (λ f. let n = eqb-false i k f in f ∙ by_bool (ltb i span)
    (λ t. sym (ap₂ ◌&&◌ t (ne_eqb (low + suc i) x (λ z. n (back z)))))
    (λ t. sym (ap (λ y. y && eqb (low + suc i) x) t)))
  where
    back : low + suc i ≡ x → i ≡ k
    back z = omega arith

and_comm : (a b : Bool) → (a && b) ≡ (b && a)
and_comm true true = refl
and_comm true false = refl
and_comm false true = refl
and_comm false false = refl

entry-bit : (x low span k j : ℕ) → low < x → k ≡ x - low - 1 → k < span → (i q : ℕ) → in_column low span j (λ y. eqb y x) i q ≡ (eqb i k && eqb q j)
entry-bit x low span k j h e l i q = and_comm (eqb q j) (ltb i span && eqb (low + suc i) x) ∙ ap (λ y. y && eqb q j) (sym (entry_row x low span k i h e l))

pub entry-columns : {w e : List ℕ} (c : Bool) (x low span k j : ℕ) → low < x → k ≡ x - low - 1 → k < span → c ≡ true → RowPut w k (bit_xor (row w k) (2 ^ j)) e
    → Flips w (turned c (in_column low span j (λ y. eqb y x))) e
entry-columns {w} {e} c x low span k j h z l t p = subst (λ d. Flips w (turned d (in_column low span j (λ y. eqb y x))) e) (sym t)
    (flips-as (flip_one j p) (λ i q a b. entry-bit x low span k j h z l i q))

pub entry-rows : {w e : List ℕ} (c : Bool) (x low span k j : ℕ) → low < x → k ≡ x - low - 1 → k < span → c ≡ false → RowPut w j (bit_xor (row w j) (2 ^ k)) e
    → Flips w (turned c (in_column low span j (λ y. eqb y x))) e
entry-rows {w} {e} c x low span k j h z l t p = subst (λ d. Flips w (turned d (in_column low span j (λ y. eqb y x))) e) (sym t)
    (flips-as (flip_one k p) (λ i q a b. entry-bit x low span k j h z l q i ∙ and_comm (eqb q k) (eqb i j)))

-- an entry outside
nothing : (a b c : Bool) → (b ≡ true → c ≡ false) → (a && (b && c)) ≡ false
nothing true true c e = e refl
nothing true false c e = refl
nothing false b c e = refl

pub entry-low : (x low span j i q : ℕ) → x ≤ low → in_column low span j (λ y. eqb y x) i q ≡ false
entry-low x low span j i q h = nothing (eqb q j) (ltb i span) (eqb (low + suc i) x) (λ t. ne_eqb (low + suc i) x apart)
  where
    apart : low + suc i ≡ x → ⊥
    apart z = omega arith

pub entry-high : (x low span k j i q : ℕ) → low < x → k ≡ x - low - 1 → span ≤ k → in_column low span j (λ y. eqb y x) i q ≡ false
entry-high x low span k j i q h e l = nothing (eqb q j) (ltb i span) (eqb (low + suc i) x) (λ t. ne_eqb (low + suc i) x (apart (ltb-true i span t)))
  where
    apart : i < span → low + suc i ≡ x → ⊥
    apart a z = omega arith

-- one entry more
and-bxor : (a b c d : Bool) → (a && (b && bxor c d)) ≡ bxor (a && (b && c)) (a && (b && d))
and-bxor true true c d = refl
and-bxor true false c d = refl
and-bxor false b c d = refl

pub column-next : (l : List ℕ) (k v low span j : ℕ) → k < length l → v ≡ get_or l k 0 → (i q : ℕ)
    → in_column low span j (λ y. par y (take (k + 1) l)) i q ≡ bxor (in_column low span j (λ y. eqb y v) i q) (in_column low span j (λ y. par y (take k l)) i q)
column-next l k v low span j h e i q = ap (λ b. eqb q j && (ltb i span && b)) (par-next (low + suc i) l k v h e)
    ∙ and-bxor (eqb q j) (ltb i span) (eqb (low + suc i) v) (par (low + suc i) (take k l))

pub column-none : (low span j i q : ℕ) → in_column low span j (λ y. par y []) i q ≡ false
column-none low span j i q = nothing (eqb q j) (ltb i span) false (λ t. refl)

-- one list more
pub columns-next : (f : ℕ → List ℕ) (low span j : ℕ) (l : List ℕ) → l ≡ f j → (i q : ℕ)
    → in_columns low span (j + 1) f i q ≡ bxor (in_column low span j (λ y. par y l) i q) (in_columns low span j f i q)
columns-next f low span j l e i q = by_bool (eqb q j)
    (λ t. let z = eqb-true q j t in
    ap (λ b. b && here q) (lt-ltb q (j + 1) (omega arith)) ∙ ap (λ x. ltb i span && par (low + suc i) x) (ap f z ∙ sym e)
    ∙ sym (ap₂ (λ a b. bxor (a && (ltb i span && par (low + suc i) l)) (b && here q)) t (le-ltb q j (omega arith)) ∙ bxor-comm (ltb i span && par (low + suc i) l) false))
    (λ n. let z = eqb-false q j n in
    ap (λ b. b && here q) (same z) ∙ sym (ap (λ a. bxor (a && (ltb i span && par (low + suc i) l)) (ltb q j && here q)) n))
  where
    here : ℕ → Bool
    here x = ltb i span && par (low + suc i) (f x)

    same : (q ≡ j → ⊥) → ltb q (j + 1) ≡ ltb q j
    same z = by_bool (ltb q j)
        (λ t. let a = ltb-true q j t in lt-ltb q (j + 1) (omega arith) ∙ sym t)
        (λ t. let a = ltb-false q j t in le-ltb q (j + 1) (omega arith) ∙ sym t)

pub columns-none : (f : ℕ → List ℕ) (low span i q : ℕ) → in_columns low span 0 f i q ≡ false
columns-none f low span i q = ap (λ b. b && (ltb i span && par (low + suc i) (f q))) (le-ltb q 0 (omega arith))
