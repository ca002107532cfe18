-- The words of a row up to its highest place: which word has it, and how many are added.
use mathlib.Core.Path.{◌≡◌, refl, sym, ap, ap₂, ◌∙◌}
use mathlib.Core.Bool.{true, cond}
use mathlib.Core.List.{List}
use Prim.Native.Nat.{ℕ, suc, ◌+◌, ◌*◌, ◌-◌, ◌/◌, ◌%◌, ◌^◌, ◌<◌, ◌≤◌}
use native.Mathlib.Nat.{mod-lt, div-eq_of_lt-le, pow-suc}
use native.Mathlib.Omega.{arith}
use lib.Bits.{bit_xor, xor_zero_l}
use lib.Dec.{ltb}
use lib.ListN.{get_or}
use lib.Pow.{pow_pos, pow_mono}
use borrow.Author.Tests.{ltb-true, ltb-false}
use Rattle.gf2.specs.Gf2.{bit, odd, Short, Bits}
use Rattle.gf2.specs.Bit.{bit_is, bit-zero, bit_high, bits-zero}
use Rattle.lists.specs.Tests.{by_bool}
use Rattle.bits.specs.Row.{num, row, RowPut}
use Rattle.bits.specs.RowLaws.{bit-low, row-bit, put_is}
use Rattle.bits.proofs.Words.{num-low, num-xor, Wrote, wrote-row, both}

-- ---- digits of one word
one-part : (i x : ℕ) → 2 ^ i ≤ x → x < 2 ^ suc i → x / 2 ^ i ≡ 1
one-part i x a b = let e = pow-suc 2 i in div-eq_of_lt-le {k = 1} (2 ^ i) (omega arith) (omega arith)

bit-top : (i x : ℕ) → 2 ^ i ≤ x → x < 2 ^ suc i → bit i x ≡ true
bit-top i x a b = bit_is i x ∙ ap (λ (y : ℕ). odd (y % 2)) (one-part i x a b)

module _ (w : List ℕ) (r : ℕ) where
  -- a word of zeros is passed over
  pub short-word : (j : ℕ) → 0 < j → j ≤ 16 → get_or w (r * 16 + (j - 1)) 0 ≡ 0 → Short (j * 64) (row w r) → Short ((j - 1) * 64) (row w r)
  short-word j h l z s = record {
    above = λ q a. by_bool (ltb q (j * 64))
        (λ k. let b = ltb-true q (j * 64) k in
        let e : q / 64 ≡ j - 1 = omega arith in
        row-bit w r q (omega arith) ∙ ap (λ (i : ℕ). bit (q % 64) (get_or w (r * 16 + i) 0)) e ∙ ap (bit (q % 64)) z ∙ bit-zero (q % 64))
        (λ k. s.above q (ltb-false q (j * 64) k));
  }

  -- the highest place of a word is that of the row
  pub bits-word : (j i x : ℕ) → 0 < j → j ≤ 16 → x ≡ get_or w (r * 16 + (j - 1)) 0 → i < 64 → 2 ^ i ≤ x → x < 2 * 2 ^ i → Short (j * 64) (row w r)
      → Bits (row w r) ((j - 1) * 64 + i + 1)
  bits-word j i x h l e k a b s =
      let c = pow-suc 2 i in
      record {
        most = record {
          above = λ q c. by_bool (ltb q (j * 64))
              (λ k. let d = ltb-true q (j * 64) k in
              let f : q / 64 ≡ j - 1 = omega arith in
              let g : suc i ≤ q % 64 = omega arith in
              let u = pow_mono {i = suc i} {j = q % 64} g in
              row-bit w r q (omega arith) ∙ ap (λ (y : ℕ). bit (q % 64) (get_or w (r * 16 + y) 0)) f ∙ ap (bit (q % 64)) (sym e) ∙ bit_high (q % 64) x (omega arith))
              (λ k. s.above q (ltb-false q (j * 64) k));
        };
        last = λ _.
            let q = (j - 1) * 64 + i + 1 - 1 in
            let f : q / 64 ≡ j - 1 = omega arith in
            let g : q % 64 ≡ i = omega arith in
            row-bit w r q (omega arith) ∙ ap₂ (λ (y v : ℕ). bit v (get_or w (r * 16 + y) 0)) f g ∙ ap (bit i) (sym e) ∙ bit-top i x a (omega arith);
      }

  -- words from l on are zero
  pub word-zero : (l k : ℕ) → l ≤ k * 64 → k < 16 → Short l (row w r) → get_or w (r * 16 + k) 0 % 2 ^ 64 ≡ 0
  word-zero l k a h s = bits-zero 64 (get_or w (r * 16 + k) 0 % 2 ^ 64) (mod-lt (get_or w (r * 16 + k) 0) (pow_pos 64)) (λ i z.
      let f : (k * 64 + i) / 64 ≡ k = omega arith in
      let g : (k * 64 + i) % 64 ≡ i = omega arith in
      bit-low 64 i (get_or w (r * 16 + k) 0) z
      ∙ sym (ap₂ (λ (y v : ℕ). bit v (get_or w (r * 16 + y) 0)) f g) ∙ sym (row-bit w r (k * 64 + i) (omega arith)) ∙ s.above (k * 64 + i) (omega arith))

-- ---- the words up to l are added
module _ (w : List ℕ) (a b l i : ℕ) where
  -- the words of row a, without those from i on
  abbrev part : ℕ → ℕ
  part k = cond (ltb k i) (get_or w (a * 16 + k) 0) 0

  part-row : l ≤ i * 64 → Short l (row w a) → num 64 part 16 ≡ row w a
  unfolding row
  part-row h s = num-low 64 part (λ j. get_or w (a * 16 + j) 0) 16 (λ k y. by_bool (ltb k i)
      (λ c. rw c)
      (λ c. let g = ltb-false k i c in rw c (sym (word-zero w a l k (omega arith) y s))))

  pub added-low : {e : List ℕ} → l ≤ i * 64 → i ≤ 16 → Short l (row w a) → Wrote w b (both w a b) i e → RowPut w b (bit_xor (row w a) (row w b)) e
  unfolding row
  added-low {e} h m s d =
      let f : ℕ → ℕ = λ k. bit_xor (part k) (get_or w (b * 16 + k) 0) in
      put_is (wrote-row {f = f} (record {
        len = d.len;
        done = λ k y. by_bool (ltb k i)
            (λ c. rw c (d.done k (ltb-true k i c)))
            (λ c. let g = ltb-false k i c in rw c (d.rest (b * 16 + k) (λ p q. omega arith) ∙ sym (xor_zero_l (get_or w (b * 16 + k) 0))));
        rest = λ j n. d.rest j (λ p q. n p (omega arith));
      }))
      (num-xor 64 part (λ j. get_or w (b * 16 + j) 0) f 16 (λ j y. refl) ∙ ap (λ (x : ℕ). bit_xor x (row w b)) (part-row h s))
