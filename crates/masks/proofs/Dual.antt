-- Linear tests, some of them tied to a taken column, the others, the free ones, zero on every taken column: a column is a sum of those
-- taken exactly if no free test sees it.
use mathlib.Core.Path.{◌≡◌, refl, sym, ap, ap₂, ◌∙◌, subst}
use mathlib.Core.Bool.{Bool, true, false, cond, true≢false}
use mathlib.Core.List.{List, [], ◌∷◌, map}
use Prim.Native.Nat.{ℕ, ◌^◌, ◌<◌}
use lib.Bits.{bit_xor, xor_lt}
use Rattle.gf2.specs.Gf2.{xor_group, is_zero, is_sum}
use Rattle.lists.specs.Lists.{bxor, All, All.nil, All.cons}
use Rattle.gf2.specs.Group.{cancel-r, cancel-mid}
use Rattle.gf2.specs.Columns.{is_zero-sound}
use Rattle.lists.specs.Tests.{by_bool}
use Rattle.gf2.specs.Span.{Span, span-zero, span-add, span_head, span_tail, is_sum-sound, is_sum-complete}
use Rattle.gf2.specs.Rank.{Hom, Zero, zero-span}

-- a linear test and the column it belongs to
pub record Dual : Type 0 where
  pub test : ℕ → Bool
  pub col : ℕ

abbrev pub cols : List Dual → List ℕ
cols D = map (λ d. d.col) D

-- each test is 1 on its own column and 0 on every other
pub data Duals : List Dual → Type 0 where
  done : Duals []
  also : {d : Dual} {D : List Dual} → Hom xor_group d.test → d.test d.col ≡ true → All (λ e. d.test e.col ≡ false) D → All (λ e. e.test d.col ≡ false) D → Duals D → Duals (d ∷ D)

-- ---- x without the taken columns whose tests see it
abbrev pub clear : List Dual → ℕ → ℕ
clear [] x = x
clear (d ∷ D) x = clear D (cond (d.test x) (bit_xor d.col x) x)

hit-zero : {φ : ℕ → Bool} (d : Dual) (x : ℕ) → Hom xor_group φ → φ d.col ≡ false → φ (cond (d.test x) (bit_xor d.col x) x) ≡ φ x
hit-zero {φ} d x h z = by_bool (d.test x) (λ k. rw k (h.adds d.col x ∙ ap (λ b. bxor b (φ x)) z)) (λ k. rw k)

pub clear-keeps : {φ : ℕ → Bool} {D : List Dual} → Hom xor_group φ → All (λ e. φ e.col ≡ false) D → (x : ℕ) → φ (clear D x) ≡ φ x
clear-keeps h nil x = refl
clear-keeps h (cons {x = d} z zs) x = clear-keeps h zs _ ∙ hit-zero d x h z

pub clear-clears : {D : List Dual} → Duals D → (x : ℕ) → All (λ d. d.test (clear D x) ≡ false) D
clear-clears done x = nil
clear-clears (also {d = d} h o z y r) x = cons (clear-keeps h z (cond (d.test x) (bit_xor d.col x) x) ∙ by_bool (d.test x) (λ k. rw k (h.adds d.col x ∙ ap₂ bxor o k)) (λ k. rw k k)) (clear-clears r _)

hit-in : (d : Dual) (x : ℕ) {R : List ℕ} → Span xor_group (d.col ∷ R) (bit_xor (cond (d.test x) (bit_xor d.col x) x) x)
hit-in d x {R} = by_bool (d.test x)
    (λ k. rw k (subst (Span xor_group (d.col ∷ R)) (sym (cancel-r xor_group d.col x)) (span_head xor_group)))
    (λ k. rw k (subst (Span xor_group (d.col ∷ R)) (sym (xor_group.self x)) (span-zero xor_group)))

clear_in : (D : List Dual) (x : ℕ) → Span xor_group (cols D) (bit_xor (clear D x) x)
clear_in [] x = subst (Span xor_group []) (sym (xor_group.self x)) (span-zero xor_group)
clear_in (d ∷ D) x = subst (Span xor_group (cols (d ∷ D))) (cancel-mid xor_group (clear D _) _ x)
    (span-add xor_group (span_tail xor_group (clear_in D _)) (hit-in d x))

-- ---- a column is a sum of those taken
cols-all : {φ : ℕ → Bool} {D : List Dual} → All (λ e. φ e.col ≡ false) D → All (Zero xor_group φ) (cols D)
cols-all nil = nil
cols-all (cons z zs) = cons z (cols-all zs)

-- if nothing of it is left
pub sum-all : (D : List Dual) (x : ℕ) → clear D x ≡ 0 → is_sum xor_group is_zero (cols D) x ≡ true
sum-all D x z = is_sum-complete xor_group is_zero is_zero-sound refl (cols D) x (subst (Span xor_group (cols D)) (ap (λ (y : ℕ). bit_xor y x) z) (clear_in D x))

-- but not if a test that is zero on those taken sees it
pub sum-not : {φ : ℕ → Bool} {D : List Dual} → Hom xor_group φ → All (λ e. φ e.col ≡ false) D → (x : ℕ) → φ x ≡ true → is_sum xor_group is_zero (cols D) x ≡ false
sum-not {φ} {D} h z x o = by_bool (is_sum xor_group is_zero (cols D) x)
    (λ k. absurd (true≢false (sym o ∙ zero-span xor_group h (cols-all z) (is_sum-sound xor_group is_zero is_zero-sound refl (cols D) x k)))) (λ k. k)

-- ---- what is left stays within the bound
pub clear-low : (g : ℕ) {D : List Dual} → All (λ d. d.col < 2 ^ g) D → (x : ℕ) → x < 2 ^ g → clear D x < 2 ^ g
clear-low g nil x h = h
clear-low g (cons {x = d} p ps) x h = clear-low g ps (cond (d.test x) (bit_xor d.col x) x) (by_bool (d.test x) (λ k. rw k (xor_lt g d.col x p h)) (λ k. rw k h))
