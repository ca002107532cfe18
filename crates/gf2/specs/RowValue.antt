-- What a row comes to where each place has a value: the sum of the values at its places, a linear function of the row.
use Rattle.std.specs.Prelude.{◌≡◌, refl, Bool, true, false, cond, List, [], ◌∷◌, ℕ, zero, suc, ◌^◌, ◌<◌, ◌≤◌, eqb}
use Rattle.std.proofs.Common.{sym, ap, ap₂, ◌∙◌, arith, pow_pos}
use Rattle.std.proofs.Math.Nat.{pow-le-pow_right}
use Rattle.std.specs.Int.Bits.{bit_xor}
use Rattle.std.proofs.lemmas.Nat.{xor_lt}
use Rattle.gf2.specs.Bit.{bit-adds, bit-pow}
use Rattle.gf2.specs.Gf2.{bit, Group2, bool_group, xor_group, sum_over, row_of, Short}
use Rattle.gf2.specs.Group.{sum_over-add, zr}
use Rattle.gf2.specs.Linear.{Lin, lin-o}
use Rattle.gf2.specs.Xor.{two_pos}
use Rattle.lists.specs.ListLaws.{below_of}
use Rattle.lists.specs.Lists.{below, bxor, All, All.nil, All.cons}
use Rattle.lists.specs.Tests.{eqb-true, eqb-false, by_bool}

-- the row of places below n is below 2 ^ n
pub row_lt : (n : ℕ) {c : List ℕ} → All (λ p. p < n) c → row_of c < 2 ^ n
row_lt n nil = pow_pos n
row_lt n (cons {x = p} {l = c} h a) = xor_lt n (2 ^ p) (row_of c) (let k = pow-le-pow_right two_pos h in let q = pow_pos p in omega arith) (row_lt n a)

module _ {A : Type 0} (G : Group2 A) where
  open G use {◌⊕◌, o, assoc, comm, self, zl}

  -- what place p gives to row r: its value where the row has it
  abbrev pub at : (ℕ → A) → ℕ → ℕ → A
  at st r p = cond (bit p r) (st p) o

  -- over the places of a list
  abbrev pub val_on : (ℕ → A) → List ℕ → ℕ → A
  val_on st L r = sum_over G (at st r) L

  -- over all places below n
  abbrev pub val : (ℕ → A) → ℕ → ℕ → A
  val st n r = val_on st (below n) r

  -- once for each of two tests
  pub cond-xor : (a b : Bool) (x : A) → cond (bxor a b) x o ≡ cond a x o ⊕ cond b x o
  cond-xor true true x = sym (self x)
  cond-xor true false x = sym (zr G x)
  cond-xor false b x = sym (zl _)

  at-adds : (st : ℕ → A) (a b p : ℕ) → at st (bit_xor a b) p ≡ at st a p ⊕ at st b p
  at-adds st a b p = ap (λ c. cond c (st p) o) (bit-adds p a b) ∙ cond-xor (bit p a) (bit p b) (st p)

  -- sums of the same values
  pub sum-ext : {X : Type 0} {f g : X → A} → ((x : X) → f x ≡ g x) → (l : List X) → sum_over G f l ≡ sum_over G g l
  sum-ext h [] = refl
  sum-ext h (x ∷ l) = ap₂ ◌⊕◌ (h x) (sum-ext h l)

  pub sum-ext-in : {X : Type 0} {f g : X → A} {l : List X} → All (λ x. f x ≡ g x) l → sum_over G f l ≡ sum_over G g l
  sum-ext-in nil = refl
  sum-ext-in (cons e h) = ap₂ ◌⊕◌ e (sum-ext-in h)

  -- linear in the row
  pub val_on-lin : (st : ℕ → A) (L : List ℕ) → Lin xor_group G (val_on st L)
  val_on-lin st L = record { adds = λ a b. sum-ext (at-adds st a b) L ∙ sum_over-add G (at st a) (at st b) L }

  pub val-lin : (st : ℕ → A) (n : ℕ) → Lin xor_group G (val st n)
  val-lin st n = record { adds = λ a b. sum-ext (at-adds st a b) (below n) ∙ sum_over-add G (at st a) (at st b) (below n) }

  -- of the places below n, only one counts
  pub sum_one : (g : ℕ → A) (n q : ℕ) → q < n → sum_over G (λ p. cond (eqb p q) (g p) o) (below n) ≡ g q
  sum_one g n q h = go n h
    where
      out : (n : ℕ) → n ≤ q → sum_over G (λ p. cond (eqb p q) (g p) o) (below n) ≡ o
      out zero l = refl
      out (suc n) l = by_bool (eqb n q) (λ e. let k = eqb-true n q e in absurd (omega arith)) (λ e. rw e (zl _ ∙ out n (omega arith)))

      go : (n : ℕ) → q < n → sum_over G (λ p. cond (eqb p q) (g p) o) (below n) ≡ g q
      go zero l = absurd (omega arith)
      go (suc n) l = by_bool (eqb n q)
          (λ e. let k = eqb-true n q e in rw e (ap (λ x. g n ⊕ x) (out n (omega arith)) ∙ zr G (g n) ∙ ap g k))
          (λ e. let k = eqb-false n q e in rw e (zl _ ∙ go n (omega arith)))

  -- a single place
  pub val-pow : (st : ℕ → A) (n q : ℕ) → q < n → val st n (2 ^ q) ≡ st q
  val-pow st n q h = sum-ext (λ p. ap (λ c. cond c (st p) o) (bit-pow p q)) (below n) ∙ sum_one st n q h

  -- a check, by its row or by its places
  pub val-row : (st : ℕ → A) (n : ℕ) {c : List ℕ} → All (λ p. p < n) c → val st n (row_of c) ≡ sum_over G st c
  val-row st n nil = lin-o xor_group G (val-lin st n)
  val-row st n (cons {x = q} {l = c} h hs) = (val-lin st n).adds (2 ^ q) (row_of c) ∙ ap₂ ◌⊕◌ (val-pow st n q h) (val-row st n hs)

  -- two states that differ by d
  pub val-add : (s d : ℕ → A) (n e : ℕ) → val (λ p. s p ⊕ d p) n e ≡ val s n e ⊕ val d n e
  val-add s d n e = sum-ext (λ p. cond-add (bit p e) (s p) (d p)) (below n) ∙ sum_over-add G (at s e) (at d e) (below n)
    where
      cond-add : (b : Bool) (x y : A) → cond b (x ⊕ y) o ≡ cond b x o ⊕ cond b y o
      cond-add true x y = refl
      cond-add false x y = sym (zl o)

  -- two states that agree below n
  pub val-ext : (s d : ℕ → A) (n r : ℕ) → ((p : ℕ) → p < n → s p ≡ d p) → val s n r ≡ val d n r
  val-ext s d n r h = sum-ext-in (below_of n (λ p l. ap (λ x. cond (bit p r) x o) (h p l)))

  -- a row without places from k on
  pub val-short : (st : ℕ → A) (k n r : ℕ) → k ≤ n → Short k r → val st n r ≡ val st k r
  val-short st k zero r l s = let e : k ≡ 0 = omega arith in rw e
  val-short st k (suc n) r l s = by_bool (eqb k (suc n))
      (λ e. let i : k ≡ suc n = eqb-true k (suc n) e in rw i)
      (λ e. let i = eqb-false k (suc n) e in rw (s.above n (omega arith)) (zl _ ∙ val-short st k n r (omega arith) s))

  -- the same value at every place of a set: it or nothing, by how many of the set the row has
  pub val-scale : (d : ℕ → Bool) (e : A) (n r : ℕ) → val (λ p. cond (d p) e o) n r ≡ cond (sum_over bool_group (λ p. cond (bit p r) (d p) false) (below n)) e o
  val-scale d e n r = go (below n)
    where
      cond_both : (a b : Bool) → cond a (cond b e o) o ≡ cond (cond a b false) e o
      cond_both true b = refl
      cond_both false b = refl

      go : (l : List ℕ) → sum_over G (at (λ p. cond (d p) e o) r) l ≡ cond (sum_over bool_group (λ p. cond (bit p r) (d p) false) l) e o
      go [] = refl
      go (p ∷ l) = ap₂ ◌⊕◌ (cond_both (bit p r) (d p)) (go l) ∙ sym (cond-xor (cond (bit p r) (d p) false) (sum_over bool_group (λ p. cond (bit p r) (d p) false) l) e)
