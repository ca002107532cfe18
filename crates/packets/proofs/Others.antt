-- The sum over the other places of a check.
use mathlib.Core.Path.{◌≡◌, refl, ap, ◌∙◌}
use mathlib.Core.Bool.{Bool, not, cond}
use mathlib.Core.List.{List, [], ◌∷◌, ◌++◌, append-nil}
use Prim.Native.Nat.{ℕ}
use borrow.Author.Tests.{ne_eqb}
use lib.ListN.{length}
use Rattle.lists.specs.Tests.{eqb-self, by_bool}
use Rattle.lists.specs.ListLaws.{all_filter}
use Rattle.lists.specs.Lists.{has, filter, minus}
use Rattle.packets.specs.Given.{Given, sum_without}
use Rattle.table.specs.PacketLaws.{packets-length, packets-sized, sum_view}

-- the last of a list passes or not
filter-snoc : (f : ℕ → Bool) (c : List ℕ) (q : ℕ) → filter f (c ++ (q ∷ [])) ≡ filter f c ++ cond (f q) (q ∷ []) []
filter-snoc f [] q = refl
filter-snoc f (x ∷ c) q = by_bool (f x)
    (λ e. rw (e, filter) (ap (λ l. x ∷ l) (filter-snoc f c q)))
    (λ e. rw (e, filter) (filter-snoc f c q))

pub minus-same : (c : List ℕ) (p : ℕ) → minus (c ++ (p ∷ [])) (p ∷ []) ≡ minus c (p ∷ [])
minus-same c p = filter-snoc (λ q. not (has q (p ∷ []))) c p ∙ rw (eqb-self p) (append-nil (minus c (p ∷ [])))

pub minus-other : (c : List ℕ) (p q : ℕ) → (q ≡ p → ⊥) → minus (c ++ (q ∷ [])) (p ∷ []) ≡ minus c (p ∷ []) ++ (q ∷ [])
minus-other c p q h = filter-snoc (λ r. not (has r (p ∷ []))) c q ∙ rw (ne_eqb q p h)

-- the sum over the other places
pub others-length : (places b : List ℕ) (n s p : ℕ) → Given places b n s → length (sum_without places b n s p) ≡ s
others-length places b n s p g =
    (sum_view s (packets-sized s n b g.bytes) {c = minus places (p ∷ [])} (all_filter (λ q. not (has q (p ∷ []))) {c = places} (rw (packets-length s n b) g.below))).0

-- the block's length is what counts
pub same_check : (places b e : List ℕ) (n s : ℕ) → length e ≡ length b → Given places b n s → Given places e n s
same_check places b e n s l g = record { below = g.below; bytes = l ∙ g.bytes }
