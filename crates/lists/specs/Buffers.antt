-- Laws of buffers: a part written, number by number; filled from the start.
use Rattle.std.specs.Prelude.{◌≡◌, refl, List, [], ◌∷◌, ◌++◌, map, ℕ, ◌+◌, ◌-◌, ◌<◌, ◌≤◌, eqb, length, get_or, set, take, drop}
use Rattle.std.proofs.Common.{sym, ap, ◌∙◌, append-nil, ⊎_elim, add-one, arith, length-append, length-take, length-drop, drop_of_length-le, take-append-drop, drop-drop, get_or-take, get_or-drop, get_or-append-add, get_or-set_same, get_or-set_other, ext_get_or, take-suc}
use Rattle.std.proofs.lemmas.List.{length-map}
use Rattle.std.proofs.Math.ListN.{get_or-append}
use Rattle.lists.specs.Lists.{from, written}
use Rattle.lists.specs.Numbers.{from-length, map-from-at}
use Rattle.lists.specs.Tests.{eqb-true, eqb-false, by_bool, side}

-- past a first part of n elements
get_d-right : (p q : List ℕ) (n i : ℕ) → length p ≡ n → get_or (p ++ q) (n + i) 0 ≡ get_or q i 0
get_d-right p q n i h = rw (← h) (get_or-append-add p q i 0)

-- the length of a part
pub part_length : (b : List ℕ) (at s : ℕ) → at + s ≤ length b → length (take s (drop at b)) ≡ s
part_length b at s h = simp (length-take, length-drop) (omega arith)

-- its bytes
pub get_d_part : (b : List ℕ) (at s i : ℕ) → i < s → get_or (take s (drop at b)) i 0 ≡ get_or b (at + i) 0
get_d_part b at s i h = get_or-take s (drop at b) i 0 h ∙ get_or-drop at b i 0

-- one number more
pub part-snoc : (t : List ℕ) (at i : ℕ) → at + i < length t → take (i + 1) (drop at t) ≡ take i (drop at t) ++ (get_or t (at + i) 0 ∷ [])
part-snoc t at i h =
    let long : i < length (drop at t) = simp length-drop (omega arith) in
    rw add-one (take-suc (drop at t) i 0 long ∙ ap (λ v. take i (drop at t) ++ (v ∷ [])) (get_or-drop at t i 0))

-- e is b with n bytes from at on that are f's
pub record Patched (b : List ℕ) (at n : ℕ) (f : ℕ → ℕ) (e : List ℕ) : Type 0 where
  pub len : length e ≡ length b
  pub inside : (i : ℕ) → i < n → get_or e (at + i) 0 ≡ f i
  pub below : (k : ℕ) → k < at → get_or e k 0 ≡ get_or b k 0
  pub above : (k : ℕ) → at + n ≤ k → get_or e k 0 ≡ get_or b k 0

-- the bytes decide
pub patched_same : {b : List ℕ} {at n : ℕ} {f g : ℕ → ℕ} {e r : List ℕ} → ((i : ℕ) → i < n → f i ≡ g i)
    → Patched b at n f e → Patched b at n g r → e ≡ r
patched_same {b} {at} {n} {f} {g} {e} {r} same p q = ext_get_or 0 e r (p.len ∙ sym q.len) (λ k _. each k) where
  each : (k : ℕ) → get_or e k 0 ≡ get_or r k 0
  each k =
      ⊎_elim (λ h. p.below k h ∙ sym (q.below k h))
      (λ h. ⊎_elim
      (λ m. let d : k ≡ at + (k - at) = omega arith in rw d (p.inside (k - at) (omega arith) ∙ same (k - at) (omega arith) ∙ sym (q.inside (k - at) (omega arith))))
      (λ m. p.above k m ∙ sym (q.above k m))
      (side k (at + n)))
      (side k at)

module _ (b : List ℕ) (at : ℕ) (x : List ℕ) (n : ℕ) (long : length x ≡ n) (fits : at + n ≤ length b) where
  head-length : length (take at b) ≡ at
  head-length = simp length-take (omega arith)

  -- what a buffer holds after x is written
  pub written-bytes : Patched b at n (λ i. get_or x i 0) (written b at x)
  written-bytes = record {
    len = simp (length-append, length-drop) (omega (arith, head-length));
    inside = λ i h. get_d-right (take at b) _ at i head-length ∙ get_or-append x _ 0 i (omega arith);
    below = λ k h. get_or-append (take at b) _ 0 k (omega (arith, head-length)) ∙ get_or-take at b k 0 h;
    above = λ k h.
        let e : k ≡ at + (n + (k - (at + n))) = omega arith in
        let d : at + length x + (k - (at + n)) ≡ k = omega arith in
        ap (λ (j : ℕ). get_or (written b at x) j 0) e ∙ get_d-right (take at b) _ at _ head-length ∙ get_d-right x _ n _ long
        ∙ get_or-drop (at + length x) b _ 0 ∙ ap (λ (j : ℕ). get_or b j 0) d;
  }

-- the length stays
pub written-length : (b : List ℕ) (at : ℕ) (x : List ℕ) → at + length x ≤ length b → length (written b at x) ≡ length b
written-length b at x h = (written-bytes b at x (length x) refl h).len

-- all of a buffer
pub written-whole : (b x : List ℕ) → length x ≡ length b → written b 0 x ≡ x
written-whole b x h = ap (λ r. x ++ r) (drop_of_length-le b {i = 0 + length x} (omega arith)) ∙ append-nil x

-- a part that is written where it stands
pub written_same : (b : List ℕ) (at s : ℕ) → at + s ≤ length b → b ≡ written b at (take s (drop at b))
written_same b at s h = sym (
    ap (λ k. take at b ++ (take s (drop at b) ++ drop (at + k) b)) (part_length b at s h)
    ∙ ap (λ x. take at b ++ (take s (drop at b) ++ x)) (sym (drop-drop s at b))
    ∙ ap (λ x. take at b ++ x) (take-append-drop s (drop at b))
    ∙ take-append-drop at b)

-- ---- filled from the start: one more
pub filled_more : {X : Type 0} (d : X) (f : ℕ → X) (l : List X) (i : ℕ) (v : X) → i < length l → ((k : ℕ) → k < i → get_or l k d ≡ f k) → v ≡ f i
    → (k : ℕ) → k < i + 1 → get_or (set l i v) k d ≡ f k
filled_more d f l i v room sofar e k h = by_bool (eqb k i)
    (λ y. let z : k ≡ i = eqb-true k i y in rw z (get_or-set_same l i v d room ∙ e))
    (λ y. let ne = eqb-false k i y in get_or-set_other l i k v d ne ∙ sofar k (omega arith))

-- all of them
pub filled-all : {X : Type 0} (d : X) (f : ℕ → X) (l : List X) (n : ℕ) → length l ≡ n → ((k : ℕ) → k < n → get_or l k d ≡ f k) → l ≡ map f (from 0 n)
filled-all d f l n long all = ext_get_or d l (map f (from 0 n)) (long ∙ sym (length-map (from 0 n) f ∙ from-length 0 n)) (λ k h. let u : k < n = omega arith in all k u ∙ sym (map-from-at f d n k u))
