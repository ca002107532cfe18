-- What every table that is made is: accepted, with the RFC's checks, the asked number of ones in each source column and two source places
-- in each check.
use Rattle.std.specs.Prelude.{◌≡◌, true, false, ◌&&◌, List, [], ◌∷◌, map, ℕ, suc, ◌-◌, ◌<◌, ◌≤◌, ltb, leb, length, get_or, take}
use Rattle.std.proofs.Math.Path.{refl, subst}
use Rattle.std.proofs.Common.{sym, ap, ◌∙◌, true≢false, arith, leb-true, ltb-true}
use Rattle.std.proofs.Math.Option.{Option, none, some}
use Rattle.std.proofs.lemmas.List.{length-map}
use Rattle.lists.specs.ListLaws.{map-all, all_map, all_of}
use Rattle.lists.specs.Lists.{has, All, All.nil, All.cons, count, filter}
use Rattle.lists.specs.Tests.{and_l, and_r}
use Rattle.table.specs.FirstCause.{NoneHolds}
use Rattle.table.specs.FirstCauseLaws.{none_of}
use Rattle.table.specs.Table.{places, size, checks, rising, beyond, refusal}
use Rattle.making.specs.FitsLaws.{fits-from}
use Rattle.making.specs.Making.{too_heavy, make_answer_at, make_buffer_after}
use Rattle.making.specs.MakingLaws.{table-lent}
use Rattle.making.specs.ReadBack.{checks-back}
use Rattle.making.specs.Sorted.{rising-low}
use Rattle.making.specs.WrittenAccepted.{Fits, written-accepted}
use Rattle.making.specs.Written.{table_of}
use Rattle.fill.specs.Fill.{State}
use Rattle.fill.specs.Filled.{Filled, fill_gives}
use Rattle.fill.specs.PutLaws.{Row}
use Rattle.staircase.specs.Ascending.{stairs-count, stairs-rise, sources-rise, sources-two, column-count, own-sources}
use Rattle.staircase.specs.Parameters.{fine}
use Rattle.staircase.specs.Staircase.{most_draws, bad_parameters, left_side, checks_made, staircase_checks, draws_spent, staircase_causes}
use Rattle.staircase.specs.Staircase.{staircase_refusal_at, staircase_table, staircase_refusal, staircase_lent}
use Rattle.staircase.specs.Stairs.{staircase, sources, checks_of}

-- ---- the statement
-- a table t that is made: accepted by the look over a table, n, s and the RFC's checks are read of it again; in each source column at
-- least the asked number of ones, in each check at least two source places
pub record MadeTable (k n ones seed s : ℕ) (t : List ℕ) : Type 0 where
  pub accepted : refusal t ≡ 0
  pub places-are : places t ≡ n
  pub size_is : size t ≡ s
  pub checks-are : checks t ≡ staircase_checks k n ones seed
  pub column-ones : (j : ℕ) → j < k → ones ≤ count (has j) (checks t)
  pub source-places : All (λ c. 2 ≤ length (filter (λ p. ltb p k) c)) (checks t)

-- ---- the checks of a filled left side
-- k sources among n packets, and n − k rows of source places, ascending, two or more in each
pub record LeftSide (k n : ℕ) (cs : List (List ℕ)) : Type 0 where
  pub above : k < n
  pub left : List (List ℕ)
  pub rows : length left ≡ n - k
  pub ascending : All (λ l. rising k 0 l ≡ true) left
  pub two : All (λ l. 2 ≤ length l) left
  pub stairs : cs ≡ staircase k left

-- every row's own property
all-rows : {P : List ℕ → Type 0} (rows : List (List ℕ)) → ((i : ℕ) → i < length rows → P (get_or rows i [])) → All P rows
all-rows [] h = nil
all-rows (x ∷ rows) h = cons (h 0 (omega arith)) (all-rows rows (λ i l. h (suc i) (omega arith)))

-- two facts of one row
all_both : {P Q R : List ℕ → Type 0} → ((x : List ℕ) → P x → Q x → R x) → {l : List (List ℕ)} → All P l → All Q l → All R l
all_both f nil nil = nil
all_both f (cons {x = x} p a) (cons q b) = cons (f x p q) (all_both f a b)

module _ (k n ones : ℕ) (above : k < n) (f : State) (full : Filled k (n - k) ones f.rows) where
  -- the left sides
  abbrev ls : List (List ℕ)
  ls = map (sources k) f.rows

  ls-rise : All (λ l. rising k 0 l ≡ true) ls
  ls-rise = map-all (sources k) (all_of (λ r. sources-rise k r) f.rows)

  ls-long : length ls ≡ n - k
  ls-long = length-map f.rows (sources k) ∙ full.long

  ls-two : All (λ l. 2 ≤ length l) ls
  ls-two = map-all (sources k) (all_both (λ r p q. sources-two k p q) full.each (all-rows f.rows (λ i h. let l = full.long in full.row-ones i (omega arith))))

  pub filled-left : LeftSide k n (checks_of k f)
  filled-left = record {
    above = above;
    left = ls;
    rows = ls-long;
    ascending = ls-rise;
    two = ls-two;
    stairs = refl;
  }

  -- the table of a fill
  module _ (seed s : ℕ) (inside : beyond n s (n - k) ≡ false) (light : too_heavy (checks_of k f) ≡ false) where
    fits : Fits n s (checks_of k f)
    fits = let m = ls-long in
        fits-from n s (checks_of k f) (subst (λ x. beyond n s x ≡ false) (sym (stairs-count k 0 ls ∙ m)) inside) light (stairs-rise n k 0 (omega arith) ls-rise)

    pub made_of : left_side k n ones seed ≡ some f → MadeTable k n ones seed s (table_of n s (checks_of k f))
    made_of e =
        let c = checks-back n s (checks_of k f) in
        record {
          accepted = written-accepted n s (checks_of k f) fits;
          places-are = refl;
          size_is = refl;
          checks-are = c ∙ sym (ap (checks_made k) e);
          column-ones = λ j h. subst (λ (x : ℕ). ones ≤ x) (sym (ap (count (has j)) c ∙ column-count k j 0 f.rows h)) (full.column-ones j h);
          source-places = subst (All (λ x. 2 ≤ length (filter (λ p. ltb p k) x))) (sym c)
              (own-sources k 0 (all_map (λ l r. rising-low k 0 l r) ls-rise) ls-two);
        }

-- ---- what is made
module _ (k n ones seed s : ℕ) where
  -- a left side, if the draws are enough
  left-of : (o : Option State) → o ≡ left_side k n ones seed → bad_parameters k n ones seed ≡ false → draws_spent o ≡ false → LeftSide k n (checks_made k o)
  left-of none q a d = absurd (true≢false d)
  left-of (some f) q a d =
      let p = fine k n ones seed a in
      let above = p.above in
      filled-left k n ones above f (fill_gives k (n - k) ones seed most_draws f p.some-sources (omega arith) (sym q))

  -- and its table, within the limits
  made-filled : (o : Option State) → o ≡ left_side k n ones seed → bad_parameters k n ones seed ≡ false → beyond n s (n - k) ≡ false → draws_spent o ≡ false
      → too_heavy (checks_made k o) ≡ false → MadeTable k n ones seed s (table_of n s (checks_made k o))
  made-filled none q a b d e = absurd (true≢false d)
  made-filled (some f) q a b d e =
      let p = fine k n ones seed a in
      let above = p.above in
      made_of k n ones above f (fill_gives k (n - k) ones seed most_draws f p.some-sources (omega arith) (sym q)) seed s b e (sym q)

  -- where no cause holds
  module _ (buffer : List ℕ) (made : staircase_refusal k n ones seed s buffer ≡ 0) where
    none-holds : NoneHolds (staircase_causes k n ones seed s (length buffer))
    unfolding staircase_refusal_at
    none-holds = none_of (staircase_causes k n ones seed s (length buffer)) refl made

    pub left-side : LeftSide k n (staircase_checks k n ones seed)
    left-side = by none-holds
      where
        by : NoneHolds (staircase_causes k n ones seed s (length buffer)) → LeftSide k n (staircase_checks k n ones seed)
        by (cons a (cons b (cons c (cons d (cons e nil))))) = left-of (left_side k n ones seed) refl a d

    -- the table that is lent on is the staircase's ..
    pub table-written : staircase_lent k n ones seed s buffer ≡ staircase_table k n ones seed s
    table-written =
        ap (λ r. take (make_answer_at r (staircase_table k n ones seed s)).length (make_buffer_after r (staircase_table k n ones seed s) buffer)) made
        ∙ table-lent (staircase_table k n ones seed s) buffer

    -- .. and as it should be
    pub made-accepted : MadeTable k n ones seed s (staircase_lent k n ones seed s buffer)
    unfolding staircase_table
    made-accepted = subst (MadeTable k n ones seed s) (sym table-written) (by none-holds)
      where
        by : NoneHolds (staircase_causes k n ones seed s (length buffer)) → MadeTable k n ones seed s (staircase_table k n ones seed s)
        by (cons a (cons b (cons c (cons d (cons e nil))))) = made-filled (left_side k n ones seed) refl a b d e

-- ---- one source
-- no two different places lie below 1
lone : (l : List ℕ) → rising 1 0 l ≡ true → 2 ≤ length l → ⊥
lone [] r h = omega arith
lone (p ∷ []) r h = omega arith
lone (p ∷ q ∷ l) r h =
    let t = and_r (leb 0 p && ltb p 1) (rising 1 (suc p) (q ∷ l)) r in
    let w = and_l (leb (suc p) q && ltb q 1) (rising 1 (suc q) l) t in
    let u = leb-true (suc p) q (and_l (leb (suc p) q) (ltb q 1) w) in
    let v = ltb-true q 1 (and_r (leb (suc p) q) (ltb q 1) w) in
    omega arith

-- one source needs draws without end, so that 11 is answered
pub one-source : (n ones seed : ℕ) → 1 < n → draws_spent (left_side 1 n ones seed) ≡ true
one-source n ones seed h = go (left_side 1 n ones seed) refl
  where
    go : (o : Option State) → left_side 1 n ones seed ≡ o → draws_spent o ≡ true
    go none e = refl
    go (some f) e =
        let full = fill_gives 1 (n - 1) ones seed most_draws f (omega arith) (omega arith) e in
        let l = full.long in
        let two = sources-two 1 (first f.rows (omega arith) full.each) (full.row-ones 0 (omega arith)) in
        absurd (lone (sources 1 (get_or f.rows 0 [])) (sources-rise 1 (get_or f.rows 0 [])) two)
      where
        first : (rs : List (List ℕ)) → 0 < length rs → All (Row 1) rs → Row 1 (get_or rs 0 [])
        first [] h a = absurd (omega arith)
        first (r ∷ rs) h (cons x a) = x
