-- As many columns are fitted as there are independent rows.
use Rattle.std.specs.Prelude.{◌≡◌, refl, Bool, true, false, List, [], ◌∷◌, ℕ, zero, suc, ◌+◌, ◌*◌, ◌/◌, ◌^◌, ◌≤◌, ◌<◌, length}
use Rattle.std.proofs.Common.{sym, ap, ap₂, ◌∙◌, subst, arith, pow_pos}
use Rattle.std.proofs.Math.Arith.{digits_div}
use Rattle.std.specs.Int.Bits.{bit_xor}
use Rattle.std.proofs.lemmas.Nat.{xor_lt}
use Rattle.gf2.specs.Bit.{bit-adds, bit-hom, bit-zero, bits-zero, bit-push-zero}
use Rattle.gf2.specs.Gf2.{xor_group, bool_group, bit, num, choose, onto, comb, column, is_zero}
use Rattle.gf2.specs.GreedyLaws.{onto-length, choose-indep, choose-spans}
use Rattle.gf2.specs.Group.{swap4}
use Rattle.gf2.specs.Independent.{Indep, Indep.empty}
use Rattle.gf2.specs.Rank.{Hom, hom-o, Zero, zero-span, Tells, width}
use Rattle.gf2.specs.Xor.{xor-half}
use Rattle.lists.specs.ListLaws.{all_map, all_of, length-below, all-below}
use Rattle.lists.specs.Lists.{bxor, All, All.nil, All.cons, below}
use Rattle.lists.specs.Tests.{eqb-true}

-- ---- sums of columns stay below 2 ^ g
pub column-lt : (E : List ℕ) (p : ℕ) → column E p < 2 ^ length E
column-lt [] p = omega arith
column-lt (e ∷ E) p = let h = column-lt E p in go (bit p e) h
  where
    go : (b : Bool) → column E p < 2 ^ length E → column E p * 2 + num b < 2 ^ suc (length E)
    go true h = omega arith
    go false h = omega arith

pub comb-lt : (k : ℕ) {R : List ℕ} → All (λ r. r < 2 ^ k) R → (m : List Bool) → comb xor_group m R < 2 ^ k
comb-lt k nil m = pow_pos k
comb-lt k (cons p a) [] = pow_pos k
comb-lt k (cons {x = x} {l = l} p a) (true ∷ m) = xor_lt k x (comb xor_group m l) p (comb-lt k a m)
comb-lt k (cons p a) (false ∷ m) = comb-lt k a m

-- ---- a choice of rows against a column
abbrev pub pair : List Bool → ℕ → Bool
pair [] c = false
pair (true ∷ m) c = bxor (bit zero c) (pair m (c / 2))
pair (false ∷ m) c = pair m (c / 2)

pub pair-adds : (m : List Bool) (a b : ℕ) → pair m (bit_xor a b) ≡ bxor (pair m a) (pair m b)
pair-adds [] a b = refl
pair-adds (true ∷ m) a b = ap₂ bxor (bit-adds zero a b) (ap (pair m) (xor-half a b) ∙ pair-adds m (a / 2) (b / 2))
    ∙ swap4 bool_group (bit zero a) (bit zero b) (pair m (a / 2)) (pair m (b / 2))
pair-adds (false ∷ m) a b = ap (pair m) (xor-half a b) ∙ pair-adds m (a / 2) (b / 2)

pub pair-hom : (m : List Bool) → Hom xor_group (pair m)
pair-hom m = record { adds = pair-adds m }

half-push : (b : Bool) (c : ℕ) → (c * 2 + num b) / 2 ≡ c
half-push true c = digits_div c {m = 2} {r = 1} (omega arith)
half-push false c = digits_div c {m = 2} {r = 0} (omega arith)

pub pair-column : (m : List Bool) (E : List ℕ) (p : ℕ) → pair m (column E p) ≡ bit p (comb xor_group m E)
pair-column m [] p = hom-o xor_group (pair-hom m) ∙ sym (bit-zero p)
pair-column [] (e ∷ E) p = sym (bit-zero p)
pair-column (true ∷ m) (e ∷ E) p =
    ap₂ bxor (bit-push-zero (bit p e) (column E p)) (ap (pair m) (half-push (bit p e) (column E p)) ∙ pair-column m E p)
    ∙ sym (bit-adds p e (comb xor_group m E))
pair-column (false ∷ m) (e ∷ E) p = ap (pair m) (half-push (bit p e) (column E p)) ∙ pair-column m E p

-- ---- the count
pub is_zero-sound : (x : ℕ) → is_zero x ≡ true → x ≡ 0
is_zero-sound x e = eqb-true x 0 e

module _ (E P : List ℕ) (ind : Indep xor_group E) (tells : Tells xor_group bit P E) where
  abbrev pub fitted : List ℕ
  fitted = choose xor_group is_zero (column E) [] P

  abbrev taken : List ℕ
  taken = onto xor_group is_zero (column E) [] fitted

  onto-all : {Q : ℕ → Type 0} {K xs : List ℕ} → All Q K → All (λ x. Q (column E x)) xs → All Q (onto xor_group is_zero (column E) K xs)
  onto-all a nil = a
  onto-all {Q = Q} {K = K} a (cons {x = x} {l = l} h hs) = onto-all {K = column E x ∷ K} (cons h a) hs

  columns-told : Tells xor_group bit (below (length E)) taken
  columns-told = record {
    tell = λ x p k. bits-zero (length E) x
        (subst (λ y. y < 2 ^ length E) p.sums (comb-lt (length E) (onto-all nil (all_of (column-lt E) fitted)) p.mask))
        (all-below (length E) k);
  }

  most : length fitted ≤ length E
  most = let h = width xor_group bit bit-hom (below (length E)) taken (choose-indep xor_group is_zero (column E) is_zero-sound refl [] P empty) columns-told in
      omega (arith, onto-length xor_group is_zero (column E) [] fitted, length-below (length E))

  pub rows_told : Tells xor_group bit fitted E
  rows_told = record {
    tell = λ x p k.
        let φ : (l : ℕ) → pair p.mask (column E l) ≡ bit l x = λ l. pair-column p.mask E l ∙ ap (bit l) p.sums in
        let z : All (Zero xor_group (pair p.mask)) taken = onto-all nil (all_map (λ l e. φ l ∙ e) k) in
        tells.tell x p (all_map (λ l q. sym (φ l) ∙ zero-span xor_group (pair-hom p.mask) z q) (choose-spans xor_group is_zero (column E) is_zero-sound refl [] P));
  }

  pub fitted-exact : length fitted ≡ length E
  fitted-exact = let h = width xor_group bit bit-hom fitted E ind rows_told in let k = most in omega arith
