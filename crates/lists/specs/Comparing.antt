-- Two lists compared number by number: the rest decides.
use Rattle.std.specs.Prelude.{◌≡◌, refl, Bool, true, false, ◌&&◌, List, [], ◌∷◌, ◌≢◌, ℕ, eqb, ◌+◌, ◌<◌, ◌≤◌, length, get_or, drop}
use Rattle.std.proofs.Common.{sym, ap, ◌∙◌, arith, eq-eqb, ne_eqb, add-one, drop_of_length-le, drop-cons}
use lib.Pointwise.{pointwise}
use Rattle.lists.specs.Lists.{same_list}
use Rattle.lists.specs.Tests.{and-false}

drop-next : (l : List ℕ) (i : ℕ) → i < length l → drop i l ≡ get_or l i 0 ∷ drop (i + 1) l
drop-next l i h = rw (add-one, drop-cons l i 0)

pub same-hit : (x y : List ℕ) (i : ℕ) → i < length x → i < length y → get_or x i 0 ≡ get_or y i 0 → same_list (drop i x) (drop i y) ≡ same_list (drop (i + 1) x) (drop (i + 1) y)
same-hit x y i h k e = rw (drop-next x i h, drop-next y i k, eq-eqb (get_or x i 0) (get_or y i 0) e)

pub same-miss : (x y : List ℕ) (i : ℕ) → i < length x → i < length y → get_or x i 0 ≢ get_or y i 0 → same_list (drop i x) (drop i y) ≡ false
same-miss x y i h k e = rw (drop-next x i h, drop-next y i k, ne_eqb (get_or x i 0) (get_or y i 0) e)

pub same_end : (x y : List ℕ) (i : ℕ) → length x ≤ i → length x ≡ length y → same_list (drop i x) (drop i y) ≡ true
same_end x y i h e = rw (drop_of_length-le x h, drop_of_length-le y {i = i} (omega arith))

-- what is left of a test: one that failed, and all passed
pub missed : (a b c d : Bool) → b ≡ false → c ≡ false → (a && b) ≡ (c && d)
missed a b c d e f = and-false a b e ∙ sym (ap (λ x. x && d) f)

pub ended : (a b : Bool) → b ≡ true → (a && b) ≡ a
ended true b e = e
ended false b e = refl

-- what a comparison of two slices says
pub pointwise-same : (x y : List ℕ) → pointwise eqb x y ≡ same_list x y
pointwise-same [] [] = refl
pointwise-same [] (b ∷ y) = refl
pointwise-same (a ∷ x) [] = refl
pointwise-same (a ∷ x) (b ∷ y) = ap (λ r. eqb a b && r) (pointwise-same x y)
