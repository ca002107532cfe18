-- Words and the number they make: words added, a bit flipped, and a loop over the words of a row.
use mathlib.Core.Path.{◌≡◌, refl, sym, ap, ap₂, ◌∙◌}
use mathlib.Core.List.{List, ◌++◌}
use Prim.Native.Nat.{ℕ, zero, suc, ◌+◌, ◌*◌, ◌-◌, ◌/◌, ◌%◌, ◌^◌, ◌<◌, ◌≤◌}
use native.Mathlib.Nat.{mod-lt, suc-mul, zero-mul, mod-eq_of_lt, one-mul}
use native.Mathlib.Omega.{arith}
use lib.Bits.{bit_xor, xor_block, xor_mod, xor_zero_r}
use lib.Dec.{lit<, ltb}
use lib.ListN.{length, get_or, set, take, drop, length-set, length-append, length-drop, replicate}
use borrow.Rule.Slice.PartMut.{put_mid}
use borrow.Author.Tests.{ltb-true, ltb-false}
use Rattle.lists.specs.Tests.{by_bool}
use Rattle.std.proofs.lemmas.List.{length-replicate, length-take-le, get_or-replicate, get_or_append_left, get_or-append_right, get_or-take, get_or-drop}
use lib.Pow.{pow_pos, pow-add, pow-lt, shl_exact}
use lib.Seq.{get_or-set_same, get_or-set_other}
use borrow.Author.Count.{below_more}
use Rattle.bits.specs.Row.{num, row, RowPut}
use Rattle.bits.specs.RowLaws.{num-same, put_is}

-- ---- words
-- only the lowest s digits of a word count
pub num-low : (s : ℕ) (f g : ℕ → ℕ) (k : ℕ) → ((j : ℕ) → j < k → f j % 2 ^ s ≡ g j % 2 ^ s) → num s f k ≡ num s g k
unfolding num
num-low s f g zero h = refl
num-low s f g (suc k) h = ap₂ (λ (q r : ℕ). q * 2 ^ s + r) (num-low s (λ j. f (suc j)) (λ j. g (suc j)) k (λ j l. h (suc j) (omega arith))) (h 0 (omega arith))

pub num-zero : (s : ℕ) (f : ℕ → ℕ) (k : ℕ) → ((j : ℕ) → j < k → f j ≡ 0) → num s f k ≡ 0
unfolding num
num-zero s f zero h = refl
num-zero s f (suc k) h = ap₂ (λ (q r : ℕ). q * 2 ^ s + r % 2 ^ s) (num-zero s (λ j. f (suc j)) k (λ j l. h (suc j) (omega arith))) (h 0 (omega arith))
    ∙ ap₂ (λ (q r : ℕ). q + r) (zero-mul (2 ^ s)) (mod-eq_of_lt (pow_pos s))

pub num-xor : (s : ℕ) (f g h : ℕ → ℕ) (k : ℕ) → ((j : ℕ) → j < k → h j ≡ bit_xor (f j) (g j)) → num s h k ≡ bit_xor (num s f k) (num s g k)
unfolding num
num-xor s f g h zero e = refl
num-xor s f g h (suc k) e =
    ap₂ (λ (q r : ℕ). q * 2 ^ s + r) (num-xor s (λ j. f (suc j)) (λ j. g (suc j)) (λ j. h (suc j)) k (λ j l. e (suc j) (omega arith)))
    (ap (λ (x : ℕ). x % 2 ^ s) (e 0 (omega arith)) ∙ xor_mod (f 0) (g 0) s)
    ∙ sym (xor_block s (num s (λ j. f (suc j)) k) (num s (λ j. g (suc j)) k) (f 0 % 2 ^ s) (g 0 % 2 ^ s) (mod-lt (f 0) (pow_pos s)) (mod-lt (g 0) (pow_pos s)))

pub num-flip : (s : ℕ) (f h : ℕ → ℕ) (k j i : ℕ) → j < k → i < s → h j ≡ bit_xor (f j) (2 ^ i) → ((l : ℕ) → (l ≡ j → ⊥) → h l ≡ f l)
    → num s h k ≡ bit_xor (num s f k) (2 ^ (j * s + i))
unfolding num
num-flip s f h zero j i m n e o = absurd (omega arith)
num-flip s f h (suc k) zero i m n e o =
    let Q = num s (λ j. f (suc j)) k in
    let z : zero * s + i ≡ i = omega (arith, zero-mul s) in
    let y : 2 ^ i ≡ 0 * 2 ^ s + 2 ^ i = omega (arith, zero-mul (2 ^ s)) in
    let a : 2 ^ (zero * s + i) ≡ 0 * 2 ^ s + 2 ^ i = ap (λ (n : ℕ). 2 ^ n) z ∙ y in
    ap₂ (λ (q r : ℕ). q * 2 ^ s + r) (num-same s (λ j. h (suc j)) (λ j. f (suc j)) k (λ j l. o (suc j) (λ (z : suc j ≡ 0). omega arith)))
    (ap (λ (x : ℕ). x % 2 ^ s) e ∙ xor_mod (f 0) (2 ^ i) s ∙ ap (bit_xor (f 0 % 2 ^ s)) (mod-eq_of_lt (pow-lt n)))
    ∙ ap (λ (q : ℕ). q * 2 ^ s + bit_xor (f 0 % 2 ^ s) (2 ^ i)) (sym (xor_zero_r Q))
    ∙ sym (ap (bit_xor (Q * 2 ^ s + f 0 % 2 ^ s)) a ∙ xor_block s Q 0 (f 0 % 2 ^ s) (2 ^ i) (mod-lt (f 0) (pow_pos s)) (pow-lt n))
num-flip s f h (suc k) (suc j) i m n e o =
    let Q = num s (λ j. f (suc j)) k in
    let b : suc j * s + i ≡ (j * s + i) + s = omega (arith, suc-mul j s) in
    let a : 2 ^ (suc j * s + i) ≡ 2 ^ (j * s + i) * 2 ^ s + 0 = ap (λ (n : ℕ). 2 ^ n) b ∙ pow-add 2 (j * s + i) s ∙ omega arith in
    ap₂ (λ (q r : ℕ). q * 2 ^ s + r % 2 ^ s)
    (num-flip s (λ j. f (suc j)) (λ j. h (suc j)) k j i (omega arith) n e (λ l z. o (suc l) (λ (y : suc l ≡ suc j). z (omega arith))))
    (o 0 (λ (z : 0 ≡ suc j). omega arith))
    ∙ ap (λ (r : ℕ). bit_xor Q (2 ^ (j * s + i)) * 2 ^ s + r) (sym (xor_zero_r (f 0 % 2 ^ s)))
    ∙ sym (ap (bit_xor (Q * 2 ^ s + f 0 % 2 ^ s)) a ∙ xor_block s Q (2 ^ (j * s + i)) (f 0 % 2 ^ s) 0 (mod-lt (f 0) (pow_pos s)) (pow_pos s))

-- a bit flipped
module _ (w : List ℕ) (r p : ℕ) (room : r * 16 + 16 ≤ length w) (inside : p < 1024) where
  abbrev at : ℕ
  at = r * 16 + p / 64

  abbrev e : List ℕ
  e = set w at (bit_xor (get_or w at 0) (1 * 2 ^ (p % 64) % 2 ^ 64))

  word : get_or e at 0 ≡ bit_xor (get_or w at 0) (2 ^ (p % 64))
  word = get_or-set_same w at _ 0 (omega arith) ∙ ap (bit_xor (get_or w at 0)) (shl_exact 1 (p % 64) 64 (lit< tt) (omega arith) ∙ one-mul (2 ^ (p % 64)))

  pub flipped : RowPut w r (bit_xor (row w r) (2 ^ p)) e
  unfolding row
  flipped =
      let c : p / 64 * 64 + p % 64 ≡ p = omega arith in
      record {
        len = simp length-set;
        here = num-flip 64 (λ j. get_or w (r * 16 + j) 0) (λ j. get_or e (r * 16 + j) 0) 16 (p / 64) (p % 64) (omega arith) (omega arith) word
            (λ l n. get_or-set_other w at (r * 16 + l) _ 0 (λ (z : r * 16 + l ≡ at). n (omega arith)))
            ∙ ap (λ (q : ℕ). bit_xor (num 64 (λ j. get_or w (r * 16 + j) 0) 16) (2 ^ q)) c;
        rest = λ j n. get_or-set_other w at j _ 0 (λ (z : j ≡ at). n (omega arith));
      }

-- ---- a loop over the words of a row: i of them are those of f
pub record Wrote (w : List ℕ) (r : ℕ) (f : ℕ → ℕ) (i : ℕ) (e : List ℕ) : Type 0 where
  pub len : length e ≡ length w
  pub done : (k : ℕ) → k < i → get_or e (r * 16 + k) 0 ≡ f k
  pub rest : (j : ℕ) → (j / 16 ≡ r → j % 16 < i → ⊥) → get_or e j 0 ≡ get_or w j 0

pub wrote_none : (w : List ℕ) (r : ℕ) (f : ℕ → ℕ) → Wrote w r f 0 w
wrote_none w r f = record { len = refl; done = λ k h. absurd (omega arith); rest = λ j n. refl }

pub wrote-turn : {w : List ℕ} {r : ℕ} {f : ℕ → ℕ} {i : ℕ} {e : List ℕ} (v : ℕ) → r * 16 + 16 ≤ length w → i < 16 → Wrote w r f i e → v ≡ f i → Wrote w r f (i + 1) (set e (r * 16 + i) v)
wrote-turn {w} {r} {f} {i} {e} v room more d q =
    let l = d.len in
    record {
      len = simp length-set d.len;
      done = below_more _ _ (λ k h. get_or-set_other e (r * 16 + i) (r * 16 + k) v 0 (λ (z : r * 16 + k ≡ r * 16 + i). omega arith) ∙ d.done k h)
          (get_or-set_same e (r * 16 + i) v 0 (omega arith) ∙ q);
      rest = λ j n. get_or-set_other e (r * 16 + i) j v 0 (λ (z : j ≡ r * 16 + i). n (omega arith) (omega arith)) ∙ d.rest j (λ a b. n a (omega arith));
    }

pub wrote-row : {w : List ℕ} {r : ℕ} {f : ℕ → ℕ} {e : List ℕ} → Wrote w r f 16 e → RowPut w r (num 64 f 16) e
unfolding row
wrote-row {w} {r} {f} {e} d = record {
  len = d.len;
  here = num-same 64 (λ j. get_or e (r * 16 + j) 0) f 16 d.done;
  rest = λ j n. d.rest j (λ a b. n a);
}

-- a row of zeros written
module _ (w ys : List ℕ) (r k n : ℕ) (room : r * 16 + 16 ≤ length w) (a : k ≡ 16) (b : n ≡ 16) (z : ys ≡ replicate n 0) where
  front : length (take (r * 16) w) ≡ r * 16
  front = length-take-le (r * 16) w (omega arith)

  many : length ys ≡ 16
  many = ap length z ∙ length-replicate n 0 ∙ b

  abbrev put : List ℕ
  put = put_mid (r * 16) k w ys

  put_length : length put ≡ length w
  put_length = simp (length-append, length-drop, front, many) (omega arith)

  zero-at : (j : ℕ) → j < 16 → get_or put (r * 16 + j) 0 ≡ 0
  zero-at j h = get_or-append_right (take (r * 16) w) (ys ++ drop k (drop (r * 16) w)) (r * 16) (r * 16 + j) 0 front (omega arith)
      ∙ get_or_append_left ys (drop k (drop (r * 16) w)) 0 (r * 16 + j - r * 16) (omega (arith, many))
      ∙ ap (λ (l : List ℕ). get_or l (r * 16 + j - r * 16) 0) z ∙ get_or-replicate n (r * 16 + j - r * 16) 0 0 (omega arith)

  before : (j : ℕ) → j < r * 16 → get_or put j 0 ≡ get_or w j 0
  before j h = get_or_append_left (take (r * 16) w) (ys ++ drop k (drop (r * 16) w)) 0 j (omega (arith, front)) ∙ get_or-take (r * 16) w j 0 h

  behind : (j : ℕ) → r * 16 + 16 ≤ j → get_or put j 0 ≡ get_or w j 0
  behind j h =
      let i : r * 16 + (k + (j - r * 16 - 16)) ≡ j = omega arith in
      get_or-append_right (take (r * 16) w) (ys ++ drop k (drop (r * 16) w)) (r * 16) j 0 front (omega arith)
      ∙ get_or-append_right ys (drop k (drop (r * 16) w)) 16 (j - r * 16) 0 many (omega arith)
      ∙ get_or-drop k (drop (r * 16) w) (j - r * 16 - 16) 0 ∙ get_or-drop (r * 16) w (k + (j - r * 16 - 16)) 0 ∙ ap (λ (v : ℕ). get_or w v 0) i

  pub cleared : RowPut w r 0 put
  cleared = put_is (wrote-row {f = λ _. 0} (record {
    len = put_length;
    done = zero-at;
    rest = λ j h. by_bool (ltb j (r * 16))
        (λ c. before j (ltb-true j (r * 16) c))
        (λ c. let d = ltb-false j (r * 16) c in behind j (by_bool (ltb j (r * 16 + 16))
        (λ y. let x = ltb-true j (r * 16 + 16) y in absurd (h (omega arith) (omega arith)))
        (λ y. ltb-false j (r * 16 + 16) y)));
  })) (num-zero 64 (λ _. 0) 16 (λ j h. refl))

abbrev pub both : List ℕ → ℕ → ℕ → ℕ → ℕ
both w a b k = bit_xor (get_or w (a * 16 + k) 0) (get_or w (b * 16 + k) 0)

pub both-turn : (w : List ℕ) (a b i : ℕ) {e : List ℕ} → b * 16 + 16 ≤ length w → i < 16 → Wrote w b (both w a b) i e
    → Wrote w b (both w a b) (i + 1) (set e (b * 16 + i) (bit_xor (get_or e (a * 16 + i) 0) (get_or e (b * 16 + i) 0)))
both-turn w a b i {e} room more d = wrote-turn _ room more d (ap₂ bit_xor (d.rest (a * 16 + i) (λ p q. omega arith)) (d.rest (b * 16 + i) (λ p q. omega arith)))

-- the words of row a of another buffer and those of row b
abbrev pub across : List ℕ → ℕ → List ℕ → ℕ → ℕ → ℕ
across u a w b k = bit_xor (get_or u (a * 16 + k) 0) (get_or w (b * 16 + k) 0)

pub across-turn : (u : List ℕ) (a : ℕ) (w : List ℕ) (b i : ℕ) {e : List ℕ} → b * 16 + 16 ≤ length w → i < 16 → Wrote w b (across u a w b) i e
    → Wrote w b (across u a w b) (i + 1) (set e (b * 16 + i) (bit_xor (get_or u (a * 16 + i) 0) (get_or e (b * 16 + i) 0)))
across-turn u a w b i {e} room more d = wrote-turn _ room more d (ap (bit_xor (get_or u (a * 16 + i) 0)) (d.rest (b * 16 + i) (λ p q. omega arith)))

pub added-across : (u : List ℕ) (a : ℕ) (w : List ℕ) (b : ℕ) {e : List ℕ} → Wrote w b (across u a w b) 16 e → RowPut w b (bit_xor (row u a) (row w b)) e
unfolding row
added-across u a w b d = put_is (wrote-row d) (num-xor 64 (λ j. get_or u (a * 16 + j) 0) (λ j. get_or w (b * 16 + j) 0) (across u a w b) 16 (λ j h. refl))
