-- Settling a place from the leads: its own row without it, reduced by lower leads; zero just if the place is decided, and then the sum is the place's.
use Rattle.std.specs.Prelude.{◌≡◌, true, false, List, ℕ, suc, ◌^◌, ◌<◌, eqb}
use Rattle.std.proofs.Common.{sym, ap, ◌∙◌, subst, arith}
use Rattle.std.specs.Int.Bits.{bit_xor}
use Rattle.gf2.specs.Bit.{bit-pow}
use Rattle.gf2.specs.Columns.{is_zero-sound}
use Rattle.gf2.specs.EchelonLaws.{bit-nonzero, down-path, passed-skip}
use Rattle.gf2.specs.Gf2.{bit, is_zero, Group2, xor_group, sum_over, is_sum, Short, Lead, rows_of, down, path}
use Rattle.gf2.specs.Group.{cancel, eq-zero}
use Rattle.gf2.specs.OneRowMore.{down-zero}
use Rattle.gf2.specs.PairElimination.{place_in, places-within, added-in}
use Rattle.gf2.specs.Pairs.{pair_group, pairs_of}
use Rattle.gf2.specs.Span.{Span, span-add, span-within, Within}
use Rattle.lists.specs.Tests.{eqb-true, eqb-self, by_bool}

-- place p alone has no place from l on
pub pow-short : (p l : ℕ) → p < l → Short l (2 ^ p)
pow-short p l h = record { above = λ q k. bit-pow q p ∙ by_bool (eqb q p) (λ e. let i = eqb-true q p e in absurd (omega arith)) (λ e. e) }

-- place p alone has place p
pub pow-on : (p : ℕ) → bit p (2 ^ p) ≡ true
pow-on p = bit-pow p p ∙ eqb-self p

pow-nonzero : (p : ℕ) → is_zero (2 ^ p) ≡ false
pow-nonzero p = bit-nonzero p (2 ^ p) (pow-on p)

module _ (f : ℕ → ℕ) (n p : ℕ) (h : p < n) where
  -- a place that leads: its own row without it, by lower leads
  pub place-lead : is_zero (f p) ≡ false → down f n (2 ^ p) ≡ down f p (bit_xor (f p) (2 ^ p))
  unfolding down
  place-lead z = (passed-skip f (2 ^ p) (suc p) n h (pow-short p (suc p) (omega arith))).row ∙ first
    where
      first : down f (suc p) (2 ^ p) ≡ down f p (bit_xor (f p) (2 ^ p))
      first = rw (pow-on p, down, z)

  -- one that leads no row stays
  pub place-free : is_zero (f p) ≡ true → down f n (2 ^ p) ≡ 2 ^ p
  unfolding down
  place-free z = (passed-skip f (2 ^ p) (suc p) n h (pow-short p (suc p) (omega arith))).row ∙ first
    where
      first : down f (suc p) (2 ^ p) ≡ 2 ^ p
      first = rw (pow-on p, down, z)

  module _ (l : Lead f) (R : List ℕ) (inn : Within xor_group R (rows_of f n)) (out : Within xor_group (rows_of f n) R) where
    -- zero just if decided
    pub settle-decided : is_zero (f p) ≡ false → is_zero (down f p (bit_xor (f p) (2 ^ p))) ≡ is_sum xor_group is_zero R (2 ^ p)
    settle-decided z = ap is_zero (sym (place-lead z)) ∙ down-zero n l R inn out (2 ^ p)

    -- one that leads no row is never decided
    pub free-undecided : is_zero (f p) ≡ true → is_sum xor_group is_zero R (2 ^ p) ≡ false
    free-undecided z = sym (down-zero n l R inn out (2 ^ p)) ∙ ap is_zero (place-free z) ∙ pow-nonzero p

  -- its own sum with those of the leads added is the place's
  pub settle-pair : {B : Type 0} (K : Group2 B) (v : ℕ → B) → is_zero (down f p (bit_xor (f p) (2 ^ p))) ≡ true
      → Span (pair_group xor_group K) (pairs_of K f v n) (2 ^ p, K.◌⊕◌ (v p) (sum_over K v (path f p (bit_xor (f p) (2 ^ p)))))
  settle-pair {B} K v z = subst (Span (pair_group xor_group K) (pairs_of K f v n)) (ap (λ (y : ℕ). (y, K.◌⊕◌ (v p) (sum_over K v (path f p (bit_xor (f p) (2 ^ p)))))) sum_is)
      (span-add (pair_group xor_group K) (place_in (pair_group xor_group K) (λ q. (f q, v q)) n p h)
      (span-within (pair_group xor_group K) (places-within (pair_group xor_group K) (pairs_of K f v n) (λ q. (f q, v q)) p (λ q k. place_in (pair_group xor_group K) (λ q. (f q, v q)) n q (omega arith)))
      (added-in K f v p (bit_xor (f p) (2 ^ p)) (v p))))
    where
      sum_is : bit_xor (f p) (sum_over xor_group f (path f p (bit_xor (f p) (2 ^ p)))) ≡ 2 ^ p
      sum_is = ap (bit_xor (f p)) (sym (eq-zero xor_group (bit_xor (f p) (2 ^ p)) _ (sym (down-path f p (bit_xor (f p) (2 ^ p))) ∙ is_zero-sound (down f p (bit_xor (f p) (2 ^ p))) z))) ∙ cancel xor_group (f p) (2 ^ p)
