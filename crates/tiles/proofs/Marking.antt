-- Laws of marking: a number more that is new, and what a repeat or an entry outside its range tells.
use mathlib.Core.Path.{◌≡◌, refl, sym, ap, ap₂, ◌∙◌, subst}
use mathlib.Core.Bool.{true, false, not, ◌&&◌, true≢false}
use mathlib.Core.List.{List, [], ◌∷◌, ◌++◌}
use Prim.Native.Nat.{ℕ, zero, suc, ◌+◌, ◌*◌, ◌/◌, ◌%◌, ◌<◌, ◌≤◌}
use native.Mathlib.Omega.{arith}
use borrow.Author.Tests.{le-leb, lt-leb}
use lib.Dec.{leb}
use lib.ListN.{length, get_or, take, drop, take-append-drop}
use lib.Seq.{take-take}
use Rattle.lists.specs.ListLaws.{differ-par, has-append}
use Rattle.lists.specs.Lists.{all_pass, all_differ, bxor, has, par}
use Rattle.lists.specs.Tests.{by_bool, bxor-comm, and-false, and_l, and_r, or_l}
use Rattle.alist.specs.Alist.{in_range}
use Rattle.alist.specs.AlistLaws.{all-differ-snoc}
use Rattle.walks.specs.WalksLaws.{one_more, pass-fails}
use Rattle.tiles.specs.Board.{on, Blank, Flips, named}

-- ---- repeats
-- a part of different numbers
differ-front : (a b : List ℕ) → all_differ (a ++ b) ≡ true → all_differ a ≡ true
differ-front [] b e = refl
differ-front (x ∷ a) b e = let n = and_l (not (has x (a ++ b))) _ e in let h = differ-front a b (and_r (not (has x (a ++ b))) _ e) in
    by_bool (has x a)
    (λ t. absurd (true≢false (sym n ∙ ap not (has-append x a b ∙ or_l (has x a) (has x b) t))))
    (λ t. rw t h)

-- ---- the numbers before number i, and number i, which is v
module _ (l : List ℕ) (count i v most : ℕ) (few : count ≤ length l) (h : i < count) (e : v ≡ get_or l i 0) where
  -- a number more
  more : take (i + 1) l ≡ take i l ++ (v ∷ [])
  more = one_more l i v (omega arith) e

  -- number i is outside its range
  pub outside-fails : in_range most v ≡ false → false ≡ (all_pass (in_range most) (take count l) && all_differ (take count l))
  outside-fails n = rw (pass-fails (in_range most) l count i v few h e n)

  -- number i was there before
  pub repeat-fails : has v (take i l) ≡ true → false ≡ (all_pass (in_range most) (take count l) && all_differ (take count l))
  repeat-fails t = sym (and-false (all_pass (in_range most) (take count l)) (all_differ (take count l)) (by_bool (all_differ (take count l))
      (λ d. absurd (true≢false (sym (differ-front (take (i + 1) l) (drop (i + 1) (take count l)) (subst (λ x. all_differ x ≡ true) split d))
      ∙ ap all_differ more ∙ all-differ-snoc (take i l) v ∙ and-false (all_differ (take i l)) (not (has v (take i l))) (ap not t))))
      (λ d. d)))
    where
      split : take count l ≡ take (i + 1) l ++ drop (i + 1) (take count l)
      split = sym (take-append-drop (i + 1) (take count l)) ∙ ap (λ x. x ++ drop (i + 1) (take count l)) (take-take (i + 1) count l (omega arith))

  -- neither
  pub differ-next : all_differ (take i l) ≡ true → has v (take i l) ≡ false → all_differ (take (i + 1) l) ≡ true
  differ-next d n = ap all_differ more ∙ all-differ-snoc (take i l) v ∙ ap₂ (λ a b. a && not b) d n

-- an entry inside its range, and outside
pub range-in : (most v : ℕ) → (v ≡ 0 → ⊥) → v ≤ most → in_range most v ≡ true
range-in most v z h = ap₂ ◌&&◌ (le-leb 1 v (some v z)) (le-leb v most h)
  where
    some : (v : ℕ) → (v ≡ 0 → ⊥) → 1 ≤ v
    some zero z = absurd (z refl)
    some (suc v) z = omega arith

pub range-zero : (most v : ℕ) → v ≡ 0 → in_range most v ≡ false
range-zero most v z = rw z

pub range-over : (most v : ℕ) → most < v → in_range most v ≡ false
range-over most v h = by_bool (leb 1 v) (λ a. rw (a, lt-leb v most h)) (λ a. rw a)

-- the bit of v tells whether v was there before
pub bit-tells : {w b : List ℕ} (l : List ℕ) (v : ℕ) → v < 1000000 → Blank w → Flips w (named l) b → all_differ l ≡ true → on b (v / 1024) (v % 1024) ≡ has v l
bit-tells {w} {b} l v small z p d = let e : v / 1024 * 1024 + v % 1024 ≡ v = omega arith in
    p.each (v / 1024) (v % 1024) (omega arith) (omega arith) ∙ ap (bxor (named l (v / 1024) (v % 1024))) (z (v / 1024) (v % 1024) (omega arith) (omega arith))
    ∙ bxor-comm (named l (v / 1024) (v % 1024)) false ∙ ap (λ x. par x l) e ∙ differ-par l d v
