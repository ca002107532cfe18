-- Putting a solved check in is one exclusive-or a place.
use mathlib.Core.Path.{◌≡◌, refl, sym, ap, ap₂, ◌∙◌}
use mathlib.Core.Bool.{Bool, true, false, cond}
use mathlib.Core.List.{List, [], ◌∷◌, ◌++◌, map}
use Prim.Native.Nat.{ℕ, suc, ◌+◌, ◌*◌, ◌^◌, ◌<◌}
use native.Mathlib.Nat.{pow-suc}
use native.Mathlib.Numerals.{add-one}
use native.Mathlib.Omega.{arith}
use lib.ListN.{length, get_or, take}
use lib.Seq.{take-suc, length-take-le}
use lib.Bits.{bit_xor, xor_block, xor_zero_r}
use lib.Dec.{eqb}
use Rattle.lists.specs.Lists.{bxor, has, par, Distinct, Distinct.dnew}
use Rattle.rule.specs.Buffers.{solved}
use Rattle.table.specs.Checks.{check}
use Rattle.gf2.specs.Gf2.{bit, num, column, row_of}
use Rattle.gf2.specs.Bit.{bit-adds}
use Rattle.lists.specs.Tests.{eqb-true, by_bool}
use Rattle.rule.specs.Rule.{Solved, put_in, put_in_all}
use Rattle.gf2.specs.Places.{bit-row}
use Rattle.live.specs.Live.{Upd}
use Rattle.columns.specs.Cols.{Columns}

-- ---- places that differ lie in a check once
par-has : (p : ℕ) (l : List ℕ) → Distinct l → par p l ≡ has p l
par-has p [] d = refl
par-has p (q ∷ l) (dnew e d) = let ih = par-has p l d in by_bool (eqb p q)
    (λ z. let n : has p l ≡ false = rw (eqb-true p q z) e in rw (z, ih, n))
    (λ z. rw (z, ih))

pub once : (c : List ℕ) → Distinct c → (p : ℕ) → bit p (row_of c) ≡ has p c
once c d p = bit-row p c ∙ par-has p c d

-- ---- columns
push-digit : (a b : ℕ) (x y : Bool) → bit_xor (a * 2 + num x) (b * 2 + num y) ≡ bit_xor a b * 2 + num (bxor x y)
push-digit a b true true = xor_block 1 a b 1 1 (omega arith) (omega arith)
push-digit a b true false = xor_block 1 a b 1 0 (omega arith) (omega arith)
push-digit a b false true = xor_block 1 a b 0 1 (omega arith) (omega arith)
push-digit a b false false = xor_block 1 a b 0 0 (omega arith) (omega arith)

bit-put : (t : Solved) (p e : ℕ) → bit p (put_in t e) ≡ bxor (bit p e) (cond (bit p (row_of t.check)) (bit t.own e) false)
bit-put t p e = by_bool (bit t.own e)
    (λ h. rw h (bit-adds p (row_of t.check) e ∙ by_bool (bit p (row_of t.check)) (λ k. rw k (sw (bit p e))) (λ k. rw k (sw' (bit p e)))))
    (λ h. rw h (by_bool (bit p (row_of t.check)) (λ k. rw k (sw' (bit p e))) (λ k. rw k (sw' (bit p e)))))
  where
    sw : (b : Bool) → bxor true b ≡ bxor b true
    sw true = refl
    sw false = refl

    sw' : (b : Bool) → b ≡ bxor b false
    sw' true = refl
    sw' false = refl

pub column-put : (t : Solved) (E : List ℕ) (p : ℕ) → column (map (put_in t) E) p ≡ bit_xor (column E p) (cond (bit p (row_of t.check)) (column E t.own) 0)
column-put t [] p = by_bool (bit p (row_of t.check)) (λ k. rw k) (λ k. rw k)
column-put t (e ∷ E) p = ap₂ (λ (a : ℕ) (b : Bool). a * 2 + num b) (column-put t E p) (bit-put t p e) ∙ by_bool (bit p (row_of t.check))
    (λ k. rw k (sym (push-digit (column E p) (column E t.own) (bit p e) (bit t.own e))))
    (λ k. rw k (sym (push-digit (column E p) 0 (bit p e) false)))

-- ---- the loop
reduce-snoc : (ts : List Solved) (t : Solved) (e : ℕ) → put_in_all (ts ++ (t ∷ [])) e ≡ put_in t (put_in_all ts e)
reduce-snoc [] t e = refl
reduce-snoc (u ∷ ts) t e = reduce-snoc ts t (put_in u e)

map_snoc : (ts : List Solved) (t : Solved) (E : List ℕ) → map (put_in_all (ts ++ (t ∷ []))) E ≡ map (put_in t) (map (put_in_all ts) E)
map_snoc ts t [] = refl
map_snoc ts t (e ∷ E) = ap₂ (λ (x : ℕ) (l : List ℕ). x ∷ l) (reduce-snoc ts t e) (map_snoc ts t E)

map-none : (E : List ℕ) → map (put_in_all []) E ≡ E
map-none [] = refl
map-none (e ∷ E) = ap (λ l. e ∷ l) (map-none E)

pub start : (g : ℕ → List ℕ) (order owns E col : List ℕ) → Columns E col → Columns (map (put_in_all (solved g order owns 0)) E) col
unfolding solved
start g order owns E col c = rw (map-none E) c

-- c is check j, the k-th, and o its own place
pub turn : (t : List ℕ) (m j o : ℕ) (c order owns E : List ℕ) (k : ℕ) {col d : List ℕ} → Distinct c → c ≡ check t m j → j ≡ get_or order k 0 → o ≡ get_or owns k 0
    → Columns (map (put_in_all (solved (check t m) order owns k)) E) col → Upd (λ a. bit_xor a (get_or col o 0)) col c d
    → Columns (map (put_in_all (solved (check t m) order owns (k + 1))) E) d
unfolding solved
turn t m j o c order owns E k {col} {d} v qc qj qo h u =
    let T : Solved = record { own = o; check = c } in
    let R = map (put_in_all (solved (check t m) order owns k)) E in
    let same : ◌≡◌ {A = Solved} (record { own = get_or owns k 0; check = check t m (get_or order k 0) }) T =
    ap₂ (λ (x : ℕ) (y : List ℕ). record { own = x; check = y }) (sym qo) (ap (check t m) (sym qj) ∙ sym qc) in
    let list : map (put_in_all (solved (check t m) order owns (k + 1))) E ≡ map (put_in T) R =
    ap (λ (i : ℕ). map (put_in_all (solved (check t m) order owns i)) E) (add-one k)
    ∙ ap (λ (x : Solved). map (put_in_all (solved (check t m) order owns k ++ (x ∷ []))) E) same
    ∙ map_snoc (solved (check t m) order owns k) T E in
    record {
      each = λ p. by_bool (has p c)
          (λ z. let a : get_or d p 0 ≡ bit_xor (get_or col p 0) (get_or col o 0) = u.each p ∙ rw z in
          let b : column (map (put_in T) R) p ≡ bit_xor (column R p) (column R o) = column-put T R p ∙ rw (once c v p, z) in
          a ∙ ap₂ bit_xor (h.each p) (h.each o) ∙ sym (ap (λ (l : List ℕ). column l p) list ∙ b))
          (λ z. let a : get_or d p 0 ≡ get_or col p 0 = u.each p ∙ rw z in
          let b : column (map (put_in T) R) p ≡ column R p = column-put T R p ∙ rw (once c v p, z) (xor_zero_r _) in
          a ∙ h.each p ∙ sym (ap (λ (l : List ℕ). column l p) list ∙ b));
    }

-- ---- the columns of the checks set aside, one check more
bxor-none : (b : Bool) → b ≡ bxor b false
bxor-none true = refl
bxor-none false = refl

snoc-digit : (a k : ℕ) (b : Bool) → bit_xor a (2 ^ k) * 2 + num b ≡ bit_xor (a * 2 + num b) (2 ^ suc k)
snoc-digit a k b = ap (λ (x : Bool). bit_xor a (2 ^ k) * 2 + num x) (bxor-none b) ∙ sym (push-digit a (2 ^ k) b false)
    ∙ ap (bit_xor (a * 2 + num b)) (let e = pow-suc 2 k in omega arith)

column-snoc : (E : List ℕ) (e p : ℕ) → column (E ++ (e ∷ [])) p ≡ bit_xor (column E p) (cond (bit p e) (2 ^ length E) 0)
column-snoc [] e p = by_bool (bit p e) (λ k. rw k) (λ k. rw k)
column-snoc (x ∷ E) e p = ap (λ (a : ℕ). a * 2 + num (bit p x)) (column-snoc E e p) ∙ by_bool (bit p e)
    (λ k. rw k (snoc-digit (column E p) (length E) (bit p x)))
    (λ k. rw k (ap (λ (a : ℕ). a * 2 + num (bit p x)) (xor_zero_r (column E p)) ∙ sym (xor_zero_r (column E p * 2 + num (bit p x)))))

rows_snoc : (g : ℕ → List ℕ) (l : List ℕ) (j : ℕ) → map row_of (map g (l ++ (j ∷ []))) ≡ map row_of (map g l) ++ (row_of (g j) ∷ [])
rows_snoc g [] j = refl
rows_snoc g (x ∷ l) j = ap (λ r. row_of (g x) ∷ r) (rows_snoc g l j)

rows-length : (g : ℕ → List ℕ) (l : List ℕ) → length (map row_of (map g l)) ≡ length l
rows-length g [] = refl
rows-length g (x ∷ l) = ap suc (rows-length g l)

-- c is check j, the i-th
pub fill-turn : (t : List ℕ) (m j i w : ℕ) (c aside : List ℕ) {col d : List ℕ} → Distinct c → c ≡ check t m j → i < length aside → j ≡ get_or aside i 0 → w ≡ 2 ^ i
    → Columns (map row_of (map (check t m) (take i aside))) col → Upd (λ a. bit_xor a w) col c d
    → Columns (map row_of (map (check t m) (take (i + 1) aside))) d
fill-turn t m j i w c aside {col} {d} v qc il qj qw k u =
    let E = map row_of (map (check t m) (take i aside)) in
    let r = row_of c in
    let list : map row_of (map (check t m) (take (i + 1) aside)) ≡ E ++ (r ∷ []) =
    ap (λ (x : ℕ). map row_of (map (check t m) (take x aside))) (add-one i)
    ∙ ap (λ (l : List ℕ). map row_of (map (check t m) l)) (take-suc aside i 0 il)
    ∙ rows_snoc (check t m) (take i aside) (get_or aside i 0)
    ∙ ap (λ (l : List ℕ). E ++ (row_of l ∷ [])) (ap (check t m) (sym qj) ∙ sym qc) in
    let len : length E ≡ i = rows-length (check t m) (take i aside) ∙ length-take-le i aside (omega arith) in
    record {
      each = λ p. by_bool (has p c)
          (λ h. let a : get_or d p 0 ≡ bit_xor (get_or col p 0) w = u.each p ∙ rw h in
          let b : column (E ++ (r ∷ [])) p ≡ bit_xor (column E p) (2 ^ length E) = column-snoc E r p ∙ rw (once c v p, h) in
          a ∙ ap₂ bit_xor (k.each p) (qw ∙ ap (λ (x : ℕ). 2 ^ x) (sym len)) ∙ sym (ap (λ (l : List ℕ). column l p) list ∙ b))
          (λ h. let a : get_or d p 0 ≡ get_or col p 0 = u.each p ∙ rw h in
          let b : column (E ++ (r ∷ [])) p ≡ column E p = column-snoc E r p ∙ rw (once c v p, h) (xor_zero_r _) in
          a ∙ k.each p ∙ sym (ap (λ (l : List ℕ). column l p) list ∙ b));
    }
