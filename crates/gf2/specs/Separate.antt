-- A row is a sum of some rows, or a set of places tells it from them: it meets the row oddly and each of the others evenly.
use Rattle.std.specs.Prelude.{◌≡◌, refl, Bool, true, false, cond, List, [], ◌∷◌, ◌⊎◌, ℕ, ◌^◌, ◌<◌, eqb}
use Rattle.std.proofs.Common.{sym, ap, ap₂, ◌∙◌, subst, inl, inr}
use Rattle.std.proofs.lemmas.Bool.{false≢true}
use Rattle.std.specs.Int.Bits.{bit_xor}
use Rattle.std.proofs.lemmas.Nat.{xor_lt}
use Rattle.gf2.specs.Bit.{bits-zero}
use Rattle.gf2.specs.Gf2.{bit, bool_group, xor_group}
use Rattle.gf2.specs.Group.{cancel}
use Rattle.gf2.specs.RowValue.{val, val-lin, val-add, sum-ext, sum_one}
use Rattle.gf2.specs.Span.{Span, span-zero, span-add, span_head, span_tail}
use Rattle.lists.specs.ListLaws.{all_map, all-zip, highest-is, highest-none, highest-lt}
use Rattle.lists.specs.Lists.{below, bxor, highest, All, All.nil, All.cons}
use Rattle.lists.specs.Tests.{by_bool, by_opt}

-- the row has an odd number of the set's places
abbrev pub meets : (ℕ → Bool) → ℕ → ℕ → Bool
meets d n r = val bool_group d n r

meets-adds : (d : ℕ → Bool) (n a b : ℕ) → meets d n (bit_xor a b) ≡ bxor (meets d n a) (meets d n b)
meets-adds d n a b = (val-lin bool_group d n).adds a b

swap_cond : (a b : Bool) → cond a b false ≡ cond b a false
swap_cond true true = refl
swap_cond true false = refl
swap_cond false true = refl
swap_cond false false = refl

-- the set of one place
pub meets-one : (n p x : ℕ) → p < n → meets (λ q. eqb q p) n x ≡ bit p x
meets-one n p x h = sum-ext bool_group (λ q. swap_cond (bit q x) (eqb q p)) (below n) ∙ sum_one bool_group (λ q. bit q x) n p h

-- a set of places that meets x oddly and every row of R evenly
pub record Apart (n : ℕ) (R : List ℕ) (x : ℕ) : Type 0 where
  pub set : ℕ → Bool
  pub even : All (λ r. meets set n r ≡ false) R
  pub odd : meets set n x ≡ true

-- two sets together
both : (ℕ → Bool) → (ℕ → Bool) → ℕ → Bool
both d e p = bxor (d p) (e p)

meets-both : (d e : ℕ → Bool) (n r : ℕ) → meets (both d e) n r ≡ bxor (meets d n r) (meets e n r)
unfolding both
meets-both d e n r = val-add bool_group d e n r

-- no rows: any place of x tells it from them
apart_none : (n x : ℕ) → x < 2 ^ n → Span xor_group [] x ⊎ Apart n [] x
apart_none n x l = by_opt (highest n (λ p. bit p x))
    (λ p e. inr (record { set = λ q. eqb q p; even = nil; odd = meets-one n p x (highest-lt n (λ p. bit p x) p e) ∙ highest-is n (λ p. bit p x) p e }))
    (λ e. inl (subst (Span xor_group []) (sym (bits-zero n x l (highest-none n (λ p. bit p x) e))) (span-zero xor_group)))

-- what is flipped
flip_of : (b : Bool) → bxor true b ≡ true → b ≡ false
flip_of true e = absurd (false≢true e)
flip_of false e = refl

-- one or the other
pub separate : (n : ℕ) (R : List ℕ) (x : ℕ) → x < 2 ^ n → All (λ r. r < 2 ^ n) R → Span xor_group R x ⊎ Apart n R x
separate n [] x l a = apart_none n x l
separate n (r ∷ R) x l (cons lr a) = go (separate n R x l a) (separate n R (bit_xor r x) (xor_lt n r x lr l) a)
  where
    two : (d : Apart n R x) (e : Apart n R (bit_xor r x)) → meets d.set n r ≡ true → Apart n (r ∷ R) x
    two d e h = by_bool (meets e.set n r)
        (λ k. record {
          set = both d.set e.set;
          even = cons (meets-both d.set e.set n r ∙ ap₂ bxor h k) (all_map (λ q z. meets-both d.set e.set n q ∙ ap₂ bxor z.0 z.1) (all-zip d.even e.even));
          odd = meets-both d.set e.set n x ∙ ap₂ bxor d.odd (other k);
        })
        (λ k. record { set = e.set; even = cons k e.even; odd = sym (ap (λ b. bxor b (meets e.set n x)) k) ∙ sym (meets-adds e.set n r x) ∙ e.odd })
      where
        other : meets e.set n r ≡ true → meets e.set n x ≡ false
        other k = flip_of (meets e.set n x) (sym (ap (λ b. bxor b (meets e.set n x)) k) ∙ sym (meets-adds e.set n r x) ∙ e.odd)

    go : Span xor_group R x ⊎ Apart n R x → Span xor_group R (bit_xor r x) ⊎ Apart n R (bit_xor r x) → Span xor_group (r ∷ R) x ⊎ Apart n (r ∷ R) x
    go (inl p) q = inl (span_tail xor_group p)
    go (inr d) (inl p) = inl (subst (Span xor_group (r ∷ R)) (cancel xor_group r x) (span-add xor_group (span_head xor_group) (span_tail xor_group p)))
    go (inr d) (inr e) = inr (by_bool (meets d.set n r) (two d e) (λ k. record { set = d.set; even = cons k d.even; odd = d.odd }))
