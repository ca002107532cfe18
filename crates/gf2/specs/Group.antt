-- Laws of such groups, and of sums over lists.
use Rattle.std.specs.Prelude.{◌≡◌, refl, List, [], ◌∷◌, ◌++◌}
use Rattle.std.proofs.Common.{sym, ap, ◌∙◌}
use Rattle.std.proofs.Math.Path.{fun_ext}
use Rattle.gf2.specs.Gf2.{Group2, sum_over}

-- ---- functions into such a group
abbrev pub fun_group : (X : Type 0) {A : Type 0} → Group2 A → Group2 (X → A)
fun_group X G = record {
  ◌⊕◌ = λ f g x. G.◌⊕◌ (f x) (g x);
  o = λ x. G.o;
  assoc = λ f g h. fun_ext (λ x. G.assoc (f x) (g x) (h x));
  comm = λ f g. fun_ext (λ x. G.comm (f x) (g x));
  self = λ f. fun_ext (λ x. G.self (f x));
  zl = λ f. fun_ext (λ x. G.zl (f x));
}

module _ {A : Type 0} (G : Group2 A) where
  open G use {◌⊕◌, o, assoc, comm, self, zl}

  -- ---- laws, once
  pub zr : (a : A) → a ⊕ o ≡ a
  zr a = comm a o ∙ zl a

  pub cancel : (a b : A) → a ⊕ (a ⊕ b) ≡ b
  cancel a b = sym (assoc a a b) ∙ rw self (zl b)

  pub left_comm : (a b c : A) → a ⊕ (b ⊕ c) ≡ b ⊕ (a ⊕ c)
  left_comm a b c = sym (assoc a b c) ∙ rw (comm a b) (assoc b a c)

  pub ⊕-assoc : (a b c : A) → (a ⊕ b) ⊕ c ≡ a ⊕ (b ⊕ c)
  ⊕-assoc = assoc

  pub ⊕-comm : (a b : A) → a ⊕ b ≡ b ⊕ a
  ⊕-comm = comm

  pub ⊕-self : (a : A) → a ⊕ a ≡ o
  ⊕-self = self

  pub ⊕-zl : (a : A) → o ⊕ a ≡ a
  ⊕-zl = zl

  pub ruleset ring = (⊕-assoc, ⊕-comm, left_comm, ⊕-self, cancel, ⊕-zl, zr)

  pub swap4 : (a b c d : A) → (a ⊕ b) ⊕ (c ⊕ d) ≡ (a ⊕ c) ⊕ (b ⊕ d)
  swap4 a b c d = simp ring

  pub cancel-mid : (a b c : A) → (a ⊕ b) ⊕ (b ⊕ c) ≡ a ⊕ c
  cancel-mid a b c = simp ring

  pub cancel-r : (a b : A) → (a ⊕ b) ⊕ b ≡ a
  cancel-r a b = simp ring

  pub move : (a b c : A) → a ⊕ b ≡ c → b ≡ a ⊕ c
  move a b c e = rw (← e) (simp ring)

  pub eq-zero : (a b : A) → a ⊕ b ≡ o → a ≡ b
  eq-zero a b e = sym (zr a) ∙ rw (← e) (cancel a b)

  module _ {X : Type 0} where
    pub sum_over-add : (f g : X → A) (l : List X) → sum_over G (λ x. f x ⊕ g x) l ≡ sum_over G f l ⊕ sum_over G g l
    sum_over-add f g [] = sym (zl o)
    sum_over-add f g (x ∷ l) = ap (λ r. (f x ⊕ g x) ⊕ r) (sum_over-add f g l) ∙ (swap4 (f x) (g x) (sum_over G f l) (sum_over G g l))

    pub sum_over-append : (f : X → A) (l m : List X) → sum_over G f (l ++ m) ≡ sum_over G f l ⊕ sum_over G f m
    sum_over-append f [] m = sym (zl _)
    sum_over-append f (x ∷ l) m = rw (sum_over-append f l m) (sym (assoc _ _ _))

    pub sum_over-zero : (l : List X) → sum_over G (λ x. o) l ≡ o
    sum_over-zero [] = refl
    sum_over-zero (x ∷ l) = ap (λ r. o ⊕ r) (sum_over-zero l) ∙ (zl o)

  module _ {X Y : Type 0} where
    pub sum_over-swap : (f : X → Y → A) (l : List X) (m : List Y)
        → sum_over G (λ x. sum_over G (f x) m) l ≡ sum_over G (λ y. sum_over G (λ x. f x y) l) m
    sum_over-swap f [] m = sym (sum_over-zero m)
    sum_over-swap f (x ∷ l) m = ap (λ r. sum_over G (f x) m ⊕ r) (sum_over-swap f l m) ∙ (sym (sum_over-add (f x) (λ y. sum_over G (λ x. f x y) l) m))
