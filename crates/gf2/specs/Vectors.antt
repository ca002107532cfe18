-- Lists of one length, added place by place.
use Rattle.std.specs.Prelude.{◌≡◌, refl, List, [], ◌∷◌, ℕ, zero, suc, length, replicate, get_or}
use Rattle.std.proofs.Common.{sym, ap, ap₂, arith}
use Rattle.std.proofs.Math.Nat.{suc_inj}
use Rattle.gf2.specs.Gf2.{Group2, add}

module _ {A : Type 0} (G : Group2 A) where
  open G use {◌⊕◌, o, assoc, comm, self, zl}

  pub add_assoc : (x y z : List A) → add G (add G x y) z ≡ add G x (add G y z)
  add_assoc [] y z = refl
  add_assoc (a ∷ x) [] z = refl
  add_assoc (a ∷ x) (b ∷ y) [] = refl
  add_assoc (a ∷ x) (b ∷ y) (c ∷ z) = ap₂ ◌∷◌ (assoc a b c) (add_assoc x y z)

  pub add_comm : (x y : List A) → add G x y ≡ add G y x
  add_comm [] [] = refl
  add_comm [] (b ∷ y) = refl
  add_comm (a ∷ x) [] = refl
  add_comm (a ∷ x) (b ∷ y) = ap₂ ◌∷◌ (comm a b) (add_comm x y)

  pub add-self : (x : List A) (n : ℕ) → length x ≡ n → add G x x ≡ replicate n o
  add-self [] zero e = refl
  add-self [] (suc n) e = absurd (omega arith)
  add-self (a ∷ x) zero e = absurd (omega arith)
  add-self (a ∷ x) (suc n) e = ap₂ ◌∷◌ (self a) (add-self x n (suc_inj e))

  pub add-zl : (x : List A) (n : ℕ) → length x ≡ n → add G (replicate n o) x ≡ x
  add-zl [] zero e = refl
  add-zl [] (suc n) e = absurd (omega arith)
  add-zl (a ∷ x) zero e = absurd (omega arith)
  add-zl (a ∷ x) (suc n) e = ap₂ ◌∷◌ (zl a) (add-zl x n (suc_inj e))

  pub length-add : (x y : List A) (n : ℕ) → length x ≡ n → length y ≡ n → length (add G x y) ≡ n
  length-add [] y n e f = e
  length-add (a ∷ x) [] n e f = f
  length-add (a ∷ x) (b ∷ y) zero e f = absurd (omega arith)
  length-add (a ∷ x) (b ∷ y) (suc n) e f = ap suc (length-add x y n (suc_inj e) (suc_inj f))

  pub get_d-add : (x y : List A) (n : ℕ) → length x ≡ n → length y ≡ n → (i : ℕ) → get_or (add G x y) i o ≡ get_or x i o ⊕ get_or y i o
  get_d-add [] [] n e f i = sym (zl o)
  get_d-add [] (b ∷ y) n e f i = absurd (omega arith)
  get_d-add (a ∷ x) [] n e f i = absurd (omega arith)
  get_d-add (a ∷ x) (b ∷ y) zero e f i = absurd (omega arith)
  get_d-add (a ∷ x) (b ∷ y) (suc n) e f zero = refl
  get_d-add (a ∷ x) (b ∷ y) (suc n) e f (suc i) = get_d-add x y n (suc_inj e) (suc_inj f) i
