-- Copies of table B are peeled from the first to the last: of each the lowest check is set aside, then the highest is taken, then the one between.
use Rattle.std.specs.Prelude.{◌≡◌, refl, Bool, true, false, List, [], ◌∷◌, ◌++◌, map, ℕ, zero, suc, ◌+◌, ◌-◌, ◌*◌, ◌<◌, ◌≤◌, eqb, length}
use Rattle.std.proofs.Common.{ap, ap₂, ◌∙◌, subst, ⊎_elim, arith}
use Rattle.std.proofs.Math.Option.{none, some}
use Rattle.lists.specs.ListLaws.{all_map, all-zip, all_append, has-low, highest-upto}
use Rattle.lists.specs.Lists.{count, has, highest, All, All.nil, All.cons}
use Rattle.lists.specs.Tests.{eqb-lt, by_bool, side}
use Rattle.table.specs.Table.{checks}
use Rattle.rule.specs.Choices.{FirstMost, first-at, without_at, step-three-only}
use Rattle.rule.specs.Rule.{in_one_only, in_two_only, freed, peel, peel_by, PeelEvent.took, PeelEvent.aside, set_aside_of}
use Rattle.theorems.specs.CopiesKept.{one, two, three, has-shift, places-low, below-four}
use Rattle.theorems.specs.SideBySide.{shifted, copies_from}
use Rattle.theorems.specs.Starred.{table_b}
use Rattle.theorems.specs.StairsPeeled.{count_no, highest-at}

-- checks of places below four, as B's are
abbrev Four : List (List ℕ) → Type 0
Four cs = All (λ c. All (λ i. i < 4) c) cs

-- ---- in how many checks a place lies
-- the copies from q on have no place below q
places-high : (q : ℕ) (c : List ℕ) → All (λ p. q ≤ p) (shifted q c)
places-high q [] = nil
places-high q (i ∷ c) = cons {x = q + i} (omega arith) (places-high q c)

copies-high : (q k : ℕ) → All (λ c. All (λ p. q ≤ p) c) (copies_from q k)
copies-high q zero = nil
copies-high q (suc k) = cons (places-high q one) (cons (places-high q two) (cons (places-high q three)
    (all_map (λ c a. all_map (λ p h. omega arith) a) (copies-high (q + 4) k))))

has-high : (p q : ℕ) → p < q → {c : List ℕ} → All (λ x. q ≤ x) c → has p c ≡ false
has-high p q h nil = refl
has-high p q h (cons {x = x} l a) = rw (eqb-lt p x (omega arith)) (has-high p q h a)

none_below : (q k p : ℕ) → p < q → count (has p) (copies_from q k) ≡ 0
none_below q k p h = count_no (has p) (all_map (λ c a. has-high p q h a) (copies-high q k))

-- some checks of a copy from q on, before others R
module _ (q : ℕ) (R : List (List ℕ)) where
  -- place q + i lies in as many of them as i in B's
  there : (i : ℕ) → count (has (q + i)) R ≡ 0 → (cs : List (List ℕ)) → count (has (q + i)) (map (shifted q) cs ++ R) ≡ count (has i) cs
  there i h [] = h
  there i h (c ∷ cs) = by_bool (has i c)
      (λ e. let z : has (q + i) (shifted q c) ≡ true = has-shift q i c ∙ e in rw (z, e, count) (ap suc (there i h cs)))
      (λ e. let z : has (q + i) (shifted q c) ≡ false = has-shift q i c ∙ e in rw (z, e, count) (there i h cs))

  -- a place behind the copy lies in none of them
  behind : (p : ℕ) → q + 4 ≤ p → {cs : List (List ℕ)} → Four cs → count (has p) (map (shifted q) cs ++ R) ≡ count (has p) R
  behind p h nil = refl
  behind p h (cons {x = c} a f) = let z : has p (shifted q c) ≡ false = has-low p (q + 4) h (places-low q a) in rw (z, count) (behind p h f)

-- ---- a copy of which the checks cs are live, before k whole copies
abbrev live : ℕ → List (List ℕ) → ℕ → List (List ℕ)
live q cs k = map (shifted q) cs ++ copies_from (q + 4) k

-- place q + i lies in as many live checks as i in cs
here : (q k : ℕ) (cs : List (List ℕ)) (i : ℕ) → i < 4 → count (has (q + i)) (live q cs k) ≡ count (has i) cs
here q k cs i h = there q (copies_from (q + 4) k) i (none_below (q + 4) k (q + i) (omega arith)) cs

-- what holds of the four places of a copy
by_place : (P : ℕ → Type 0) → P 0 → P 1 → P 2 → P 3 → (i : ℕ) → i < 4 → P i
by_place P a b c d zero h = a
by_place P a b c d (suc zero) h = b
by_place P a b c d (suc (suc zero)) h = c
by_place P a b c d (suc (suc (suc zero))) h = d
by_place P a b c d (suc (suc (suc (suc i)))) h = absurd (omega arith)

-- no place of whole copies lies in exactly one check
never-one : (q k p : ℕ) → in_one_only (copies_from q k) p ≡ false
never-one q zero p = refl
never-one q (suc k) p = ⊎_elim
    (λ h. ap (λ x. eqb x 1) (none_below q (suc k) p h))
    (λ h. ⊎_elim
    (λ l. let z : q + (p - q) ≡ p = omega arith in subst (λ x. in_one_only (copies_from q (suc k)) x ≡ false) z
    (ap (λ x. eqb x 1) (here q k (checks table_b) (p - q) (omega arith)) ∙ by_place (λ i. in_one_only (checks table_b) i ≡ false) refl refl refl refl (p - q) (omega arith)))
    (λ l. ap (λ x. eqb x 1) (behind q (copies_from (q + 4) k) p l below-four) ∙ never-one (q + 4) k p)
    (side p (q + 4)))
    (side p q)

-- the highest place in exactly one live check lies in the copy
top : (q k n i : ℕ) {cs : List (List ℕ)} → Four cs → i < 4 → q + 4 ≤ n → in_one_only cs i ≡ true → ((j : ℕ) → j < 4 → i < j → in_one_only cs j ≡ false)
    → highest n (in_one_only (live q cs k)) ≡ some (q + i)
top q k n i {cs} four l m t a = highest-at n (in_one_only (live q cs k)) (q + i) (omega arith)
    (ap (λ x. eqb x 1) (here q k cs i l) ∙ t)
    (λ p h. ⊎_elim
    (λ b. let z : q + (p - q) ≡ p = omega arith in subst (λ x. in_one_only (live q cs k) x ≡ false) z
    (ap (λ x. eqb x 1) (here q k cs (p - q) (omega arith)) ∙ a (p - q) (omega arith) (omega arith)))
    (λ b. ap (λ x. eqb x 1) (behind q (copies_from (q + 4) k) p b four) ∙ never-one (q + 4) k p)
    (side p (q + 4)))

-- ---- every check of whole copies would free two places
count_same : (f g : ℕ → Bool) {l : List ℕ} → All (λ x. f x ≡ g x) l → count f l ≡ count g l
count_same f g nil = refl
count_same f g (cons {x = x} e a) = by_bool (g x)
    (λ t. let z : f x ≡ true = e ∙ t in rw (z, t, count) (ap suc (count_same f g a)))
    (λ t. let z : f x ≡ false = e ∙ t in rw (z, t, count) (count_same f g a))

freed-there : (q k : ℕ) {d : List ℕ} → All (λ i. i < 4) d → freed (copies_from q (suc k)) (shifted q d) ≡ freed (checks table_b) d
freed-there q k nil = refl
freed-there q k (cons {x = i} h a) =
    let e : in_two_only (copies_from q (suc k)) (q + i) ≡ in_two_only (checks table_b) i = ap (λ x. eqb x 2) (here q k (checks table_b) i h) in
    by_bool (in_two_only (checks table_b) i)
    (λ t. let z : in_two_only (copies_from q (suc k)) (q + i) ≡ true = e ∙ t in rw (z, t, count) (ap suc (freed-there q k a)))
    (λ t. let z : in_two_only (copies_from q (suc k)) (q + i) ≡ false = e ∙ t in rw (z, t, count) (freed-there q k a))

freed-behind : (q k : ℕ) {c : List ℕ} → All (λ p. q + 4 ≤ p) c → freed (copies_from q (suc k)) c ≡ freed (copies_from (q + 4) k) c
freed-behind q k a = count_same (in_two_only (copies_from q (suc k))) (in_two_only (copies_from (q + 4) k))
    (all_map (λ p h. ap (λ x. eqb x 2) (behind q (copies_from (q + 4) k) p h below-four)) a)

two-freed : (q k : ℕ) → All (λ c. freed (copies_from q k) c ≡ 2) (copies_from q k)
two-freed q zero = nil
two-freed q (suc k) = all_append (go below-four) (all_map (λ d z. freed-behind q k z.0 ∙ z.1) (all-zip (copies-high (q + 4) k) (two-freed (q + 4) k)))
  where
    go : Four (checks table_b) → All (λ c. freed (copies_from q (suc k)) c ≡ 2) (map (shifted q) (checks table_b))
    go (cons a (cons b (cons c nil))) = cons (freed-there q k a) (cons (freed-there q k b) (cons (freed-there q k c) nil))

-- ---- the peeling
module _ (q k n m : ℕ) (h : q + 4 ≤ n) where
  -- the copies behind
  abbrev R : List (List ℕ)
  R = copies_from (q + 4) k

  none-single : highest n (in_one_only (copies_from q (suc k))) ≡ none
  none-single = highest-upto n 0 (in_one_only (copies_from q (suc k))) (omega arith) (λ p z. never-one q (suc k) p)

  -- the lowest check is worth as much as any
  lowest : FirstMost (freed (copies_from q (suc k))) (copies_from q (suc k)) (shifted q one) (live q (two ∷ three ∷ []) k)
  lowest = go (two-freed q (suc k))
    where
      go : All (λ c. freed (copies_from q (suc k)) c ≡ 2) (copies_from q (suc k)) → FirstMost (freed (copies_from q (suc k))) (copies_from q (suc k)) (shifted q one) (live q (two ∷ three ∷ []) k)
      go (cons e a) = record {
        before = [];
        after = live q (two ∷ three ∷ []) k;
        among = refl;
        others = refl;
        less = nil;
        no_more = all_map (λ c f. omega arith) a;
      }

  first-turn : peel (suc (suc (suc m))) n (copies_from q (suc k)) ≡ aside (shifted q one) ∷ peel (suc (suc m)) n (live q (two ∷ three ∷ []) k)
  first-turn = step-three-only (suc (suc m)) n (copies_from q (suc k)) (shifted q one) (live q (two ∷ three ∷ []) k) none-single lowest

  second-turn : peel (suc (suc m)) n (live q (two ∷ three ∷ []) k) ≡ took (q + 2) (shifted q three) ∷ peel (suc m) n (live q (two ∷ []) k)
  second-turn =
      let e : highest n (in_one_only (live q (two ∷ three ∷ []) k)) ≡ some (q + 2) = top q k n 2 (tail-low below-four) (omega arith) h refl
      (by_place (λ j. 2 < j → in_one_only (two ∷ three ∷ []) j ≡ false) (λ z. absurd (omega arith)) (λ z. absurd (omega arith)) (λ z. absurd (omega arith)) (λ z. refl)) in
      rw (e, peel_by) (ap₂ (λ x y. took (q + 2) x ∷ peel (suc m) n y)
      (first-at (has (q + 2)) {before = shifted q two ∷ []} (shifted q three) R (cons (has-shift q 2 two) nil) (has-shift q 2 three))
      (without_at (has (q + 2)) {before = shifted q two ∷ []} (shifted q three) R (cons (has-shift q 2 two) nil) (has-shift q 2 three)))
    where
      tail-low : Four (checks table_b) → Four (two ∷ three ∷ [])
      tail-low (cons a f) = f

  third-turn : peel (suc m) n (live q (two ∷ []) k) ≡ took (q + 3) (shifted q two) ∷ peel m n R
  third-turn =
      let e : highest n (in_one_only (live q (two ∷ []) k)) ≡ some (q + 3) = top q k n 3 (middle-low below-four) (omega arith) h refl (λ j l z. absurd (omega arith)) in
      rw (e, peel_by) (ap₂ (λ x y. took (q + 3) x ∷ peel m n y)
      (first-at (has (q + 3)) {before = []} (shifted q two) R nil (has-shift q 3 two))
      (without_at (has (q + 3)) {before = []} (shifted q two) R nil (has-shift q 3 two)))
    where
      middle-low : Four (checks table_b) → Four (two ∷ [])
      middle-low (cons a (cons b f)) = cons b nil

-- one check of each copy is set aside
pub asides : (q k n : ℕ) → q + 4 * k ≤ n → length (set_aside_of (peel (length (copies_from q k)) n (copies_from q k))) ≡ k
asides q zero n h = refl
asides q (suc k) n h =
    let m = length (copies_from (q + 4) k) in
    ap (λ x. length (set_aside_of x)) (first-turn q k n m (omega arith))
    ∙ ap (λ x. length (set_aside_of (aside (shifted q one) ∷ x))) (second-turn q k n m (omega arith))
    ∙ ap (λ x. suc (length (set_aside_of (took (q + 2) (shifted q three) ∷ x)))) (third-turn q k n m (omega arith))
    ∙ ap suc (asides (q + 4) k n (omega arith))
