-- The list u: one entry of a scan, and one entry written.
use mathlib.Core.Path.{◌≡◌, refl, sym, ap, ap₂, ◌∙◌}
use mathlib.Core.Bool.{Bool, true, false, ◌||◌}
use mathlib.Core.List.{List, [], ◌∷◌, ◌++◌, map, append_assoc}
use Prim.Native.Nat.{ℕ, suc, ◌+◌, ◌<◌, ◌≤◌}
use native.Mathlib.Numerals.{add-one}
use native.Mathlib.Omega.{arith}
use lib.ListN.{length, get_or, set, take, drop, length-append, length-map, length-drop}
use lib.Seq.{drop-cons, get_or-take, length-take-le, set_at, drop-length}
use Rattle.lists.specs.Lists.{any_of, from}
use Rattle.lists.specs.Numbers.{from-length, from-snoc}

-- ---- the scan
module _ (f : ℕ → Bool) (u : List ℕ) (e : ℕ) (long : e ≤ length u) where
  at_next : (i : ℕ) → i < e → drop i (take e u) ≡ get_or u i 0 ∷ drop (i + 1) (take e u)
  at_next i h =
      let l : i < length (take e u) = let z = length-take-le e u long in omega arith in
      drop-cons (take e u) i 0 l ∙ ap₂ (λ x j. x ∷ drop j (take e u)) (get_or-take e u i 0 h) (sym (add-one i))

  -- the entry decides it, or leaves it to those after it
  entry : (i : ℕ) (b : Bool) → i < e → f (get_or u i 0) ≡ b → any_of f (drop i (take e u)) ≡ (b || any_of f (drop (i + 1) (take e u)))
  entry i b h t = ap (any_of f) (at_next i h) ∙ ap (λ x. x || any_of f (drop (i + 1) (take e u))) t

  pub any-hit : (i : ℕ) → i < e → f (get_or u i 0) ≡ true → any_of f (drop i (take e u)) ≡ true
  any-hit i h t = entry i true h t

  pub any-miss : (i : ℕ) → i < e → f (get_or u i 0) ≡ false → any_of f (drop i (take e u)) ≡ any_of f (drop (i + 1) (take e u))
  any-miss i h t = entry i false h t

  pub any_none : (i : ℕ) → i ≡ e → any_of f (drop i (take e u)) ≡ false
  any_none i h = ap (λ j. any_of f (drop j (take e u))) (h ∙ sym (length-take-le e u long)) ∙ ap (any_of f) (drop-length (take e u))

-- ---- the first h entries written
map-two : (f : ℕ → ℕ) (a b : List ℕ) → map f (a ++ b) ≡ map f a ++ map f b
map-two f [] b = refl
map-two f (x ∷ a) b = ap (λ l. f x ∷ l) (map-two f a b)

module _ (f : ℕ → ℕ) (u₀ : List ℕ) where
  pub order-start : u₀ ≡ map f (from 0 0) ++ drop 0 u₀
  unfolding from
  order-start = refl

  pub order-length : (h : ℕ) (u : List ℕ) → h ≤ length u₀ → u ≡ map f (from 0 h) ++ drop h u₀ → length u ≡ length u₀
  order-length h u l e =
      let a = length-map (from 0 h) f in
      let b = from-length 0 h in
      let d = length-drop h u₀ in
      let s : length (map f (from 0 h)) + length (drop h u₀) ≡ length u₀ = omega arith in
      ap length e ∙ length-append (map f (from 0 h)) (drop h u₀) ∙ s

  -- one more in order
  order-snoc : (h : ℕ) → map f (from 0 (h + 1)) ≡ map f (from 0 h) ++ (f h ∷ [])
  order-snoc h =
      let z : 0 + h ≡ h = omega arith in
      ap (λ x. map f (from 0 x)) (add-one h) ∙ ap (map f) (from-snoc 0 h) ∙ map-two f (from 0 h) ((0 + h) ∷ []) ∙ ap (λ x. map f (from 0 h) ++ (f x ∷ [])) z

  pub order-turn : (h v : ℕ) (u : List ℕ) → h < length u₀ → v ≡ f h → u ≡ map f (from 0 h) ++ drop h u₀ → set u h v ≡ map f (from 0 (h + 1)) ++ drop (h + 1) u₀
  order-turn h v u l q e =
      let a = map f (from 0 h) in
      ap (λ x. set x h v) (e ∙ ap (λ x. a ++ x) (drop-cons u₀ h 0 l))
      ∙ set_at a (get_or u₀ h 0) (drop (suc h) u₀) v h (length-map (from 0 h) f ∙ from-length 0 h)
      ∙ ap₂ (λ y z. a ++ (y ∷ drop z u₀)) q (sym (add-one h))
      ∙ sym (append_assoc a (f h ∷ []) (drop (h + 1) u₀))
      ∙ ap (λ x. x ++ drop (h + 1) u₀) (sym (order-snoc h))
