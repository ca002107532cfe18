-- Over bits: solving with one free place at 1 gives a set that every row meets evenly, and the one that is least from the lowest bit on.
use Rattle.std.specs.Prelude.{◌≡◌, refl, Bool, true, false, cond, List, ℕ, zero, suc, ◌<◌, ◌≤◌, eqb}
use Rattle.std.proofs.Common.{sym, ap, ap₂, ◌∙◌, true≢false, arith}
use Rattle.std.specs.Int.Bits.{bit_xor}
use Rattle.gf2.specs.Bit.{bit-adds, bit-hom}
use Rattle.gf2.specs.Columns.{is_zero-sound}
use Rattle.gf2.specs.EchelonLaws.{down-in}
use Rattle.gf2.specs.Gf2.{bit, bool_group, xor_group, is_zero, Lead, rows_of, down}
use Rattle.gf2.specs.Group.{zr, cancel, cancel-r}
use Rattle.gf2.specs.OneRowMore.{Stopped}
use Rattle.gf2.specs.PairElimination.{place_in}
use Rattle.gf2.specs.Rank.{Hom, hom-o, zero-span}
use Rattle.gf2.specs.RowValue.{val-lin, val-ext, val-short}
use Rattle.gf2.specs.Separate.{meets}
use Rattle.gf2.specs.Solving.{solve, solve-free, solve-lead, solve-row, row-lead}
use Rattle.gf2.specs.Span.{Span, span-within, Within}
use Rattle.lists.specs.ListLaws.{below_of, map-all}
use Rattle.lists.specs.Lists.{bxor, All}
use Rattle.lists.specs.Tests.{by_bool, eqb-true, eqb-false, eqb-self, eqb-lt}

pub meets-hom : (d : ℕ → Bool) (n : ℕ) → Hom xor_group (meets d n)
meets-hom d n = record { adds = (val-lin bool_group d n).adds }

-- place k at 1, the other free ones at 0
abbrev pub even_bits : ℕ → (ℕ → ℕ) → ℕ → ℕ → Bool
even_bits n f k = solve bool_group f (λ q. false) (λ q. eqb q k) n

-- a set with nothing below k
val-none : (d : ℕ → Bool) (k r : ℕ) → ((p : ℕ) → p < k → d p ≡ false) → meets d k r ≡ false
val-none d zero r h = refl
val-none d (suc k) r h = ap₂ bxor (one (bit k r) (h k (omega arith))) (val-none d k r (λ p l. h p (omega arith)))
  where
    one : (b : Bool) → d k ≡ false → cond b (d k) false ≡ false
    one true e = e
    one false e = refl

module _ (n : ℕ) {f : ℕ → ℕ} (l : Lead f) (R : List ℕ) (inn : Within xor_group R (rows_of f n)) (out : Within xor_group (rows_of f n) R) (x : ℕ) (s : Stopped f n (down f n x)) where
  -- the row of the place, reduced; its highest place is free
  abbrev y : ℕ
  y = down f n x

  -- that place at 1
  abbrev pub least : ℕ → Bool
  least = even_bits n f s.top

  -- a set that every lead's row meets evenly, every sum of rows does
  rows-even : (d : ℕ → Bool) → ((p : ℕ) → p < n → is_zero (f p) ≡ false → meets d n (f p) ≡ false) → (r : ℕ) → Span xor_group (rows_of f n) r → meets d n r ≡ false
  rows-even d h r q = zero-span xor_group (meets-hom d n) (map-all f (below_of n (λ p i. by_bool (is_zero (f p))
      (λ z. ap (meets d n) (is_zero-sound (f p) z) ∙ hom-o xor_group (meets-hom d n)) (h p i)))) q

  -- what was added to x is such a sum
  parted : (d : ℕ → Bool) → ((p : ℕ) → p < n → is_zero (f p) ≡ false → meets d n (f p) ≡ false) → meets d n x ≡ meets d n y
  parted d h = ap (meets d n) (sym (cancel xor_group y x)) ∙ (meets-hom d n).adds y (bit_xor y x) ∙ ap (bxor (meets d n y)) (rows-even d h _ (down-in f n x)) ∙ zr bool_group _

  -- nothing below the free place
  low-none : (k : ℕ) → k ≤ s.top → (p : ℕ) → p < k → least p ≡ false
  low-none zero h p i = absurd (omega arith)
  low-none (suc k) h p i = by_bool (eqb p k)
      (λ e. let j = eqb-true p k e in let g = s.inside in let kn : k < n = omega arith in
      ap least j ∙ by_bool (is_zero (f k))
      (λ z. solve-free bool_group f (λ q. false) (λ q. eqb q s.top) n k kn z ∙ eqb-lt k s.top h)
      (λ z. solve-lead bool_group f (λ q. false) (λ q. eqb q s.top) n k kn z ∙ val-none least k (f k) (low-none k (omega arith))))
      (λ e. let j = eqb-false p k e in low-none k (omega arith) p (omega arith))

  top-on : least s.top ≡ true
  top-on = solve-free bool_group f (λ q. false) (λ q. eqb q s.top) n s.top s.inside s.free ∙ eqb-self s.top

  leads-even : (p : ℕ) → p < n → is_zero (f p) ≡ false → meets least n (f p) ≡ false
  leads-even p h z = solve-row bool_group f (λ q. false) (λ q. eqb q s.top) l n p h z

  -- every row meets it evenly
  pub least-even : (r : ℕ) → Span xor_group R r → meets least n r ≡ false
  least-even r q = rows-even least leads-even r (span-within xor_group out q)

  -- and x oddly
  pub least-odd : meets least n x ≡ true
  least-odd = parted least leads-even ∙ val-short bool_group least (suc s.top) n y s.inside s.last
      ∙ ap₂ bxor (ap₂ (λ a b. cond a b false) s.on top-on) (val-none least s.top y (low-none s.top (omega arith)))

  -- of another such set the lowest place in which they differ is not in this one
  pub least_first : (u : ℕ → Bool) → All (λ r. meets u n r ≡ false) R → meets u n x ≡ true
      → (d : ℕ) → d < n → ((q : ℕ) → q < d → u q ≡ least q) → (u d ≡ least d → ⊥) → least d ≡ false
  least_first u even odd d h same ne = by_bool (eqb d s.top)
      (λ e. let j = eqb-true d s.top e in absurd (true≢false (sym odd ∙ parted u u-even ∙ val-short bool_group u (suc s.top) n y s.inside s.last ∙ val-none u (suc s.top) y (λ p i. u-none j p (omega arith)))))
      (λ e. by_bool (is_zero (f d))
      (λ z. solve-free bool_group f (λ q. false) (λ q. eqb q s.top) n d h z ∙ e)
      (λ z. absurd (ne (row-lead bool_group f (λ q. false) (λ q. eqb q s.top) l u n d h z (u-even d h z) ∙ val-ext bool_group u least d (f d) same
      ∙ sym (solve-lead bool_group f (λ q. false) (λ q. eqb q s.top) n d h z)))))
    where
      u-even : (p : ℕ) → p < n → is_zero (f p) ≡ false → meets u n (f p) ≡ false
      u-even p i z = zero-span xor_group (meets-hom u n) even (span-within xor_group inn (place_in xor_group f n p i))

      other : (b : Bool) → (b ≡ true → ⊥) → b ≡ false
      other true k = absurd (k refl)
      other false k = refl

      u-none : d ≡ s.top → (p : ℕ) → p ≤ s.top → u p ≡ false
      u-none j p i = by_bool (eqb p d)
          (λ e. ap u (eqb-true p d e) ∙ other (u d) (λ t. ne (t ∙ sym (ap least j ∙ top-on))))
          (λ e. let k = eqb-false p d e in same p (omega arith) ∙ low-none s.top (omega arith) p (omega arith))

  -- only places that the rows or x have
  pub least-within : (q : ℕ) → q < n → All (λ r. bit q r ≡ false) R → bit q x ≡ false → least q ≡ false
  least-within q h a e = solve-free bool_group f (λ q. false) (λ q. eqb q s.top) n q h no_lead ∙ not_top
    where
      no_lead : is_zero (f q) ≡ true
      no_lead = by_bool (is_zero (f q)) (λ z. z) (λ z. absurd (true≢false (sym (l.own q z) ∙ zero-span xor_group (bit-hom q) a (span-within xor_group inn (place_in xor_group f n q h)))))

      y-none : bit q y ≡ false
      y-none = ap (bit q) (sym (cancel-r xor_group y x)) ∙ bit-adds q (bit_xor y x) x ∙ ap₂ bxor (zero-span xor_group (bit-hom q) a (span-within xor_group inn (down-in f n x))) e

      not_top : eqb q s.top ≡ false
      not_top = by_bool (eqb q s.top) (λ k. absurd (true≢false (sym s.on ∙ ap (λ i. bit i y) (sym (eqb-true q s.top k)) ∙ y-none))) (λ k. k)
