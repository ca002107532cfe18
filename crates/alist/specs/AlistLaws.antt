-- Laws of an alist text's weights and lists: when no entry stands twice, how many lists there are, each of them, when columns and rows agree.
use Rattle.std.specs.Prelude.{◌≡◌, refl, Bool, true, false, not, ◌||◌, ◌&&◌, List, [], ◌∷◌, ◌++◌, ◌↔◌, ℕ, zero, suc, ◌+◌, ◌*◌, ◌<◌, ◌≤◌, eqb, length, get_or, take, drop}
use Rattle.std.proofs.Common.{sym, ap, ap₂, ◌∙◌, zero-mul, suc-mul, arith, length-drop, drop-drop, length-take-le}
use Rattle.lists.specs.ListLaws.{all_map, has-append}
use Rattle.lists.specs.Lists.{All, All.nil, All.cons, all_differ, any_of, bxor, from, has}
use Rattle.lists.specs.Numbers.{any-from}
use Rattle.lists.specs.Tests.{and_both, and_l, and_r, bxor-none, bxor-self, eqb_comm, eqb-true}
use Rattle.alist.specs.Alist.{column_count, row_count, column_most, row_most, after_column_weights, after_columns, row_weights, row_lists, row_entries}
use Rattle.alist.specs.Alist.{chunks, entries, counted, greatest, good_list, good_lists, one_sided}

-- ---- entries that differ
-- one more at the end
pub all-differ-snoc : (l : List ℕ) (x : ℕ) → all_differ (l ++ (x ∷ [])) ≡ (all_differ l && not (has x l))
all-differ-snoc [] x = refl
all-differ-snoc (y ∷ l) x =
    ap₂ (λ a b. not a && b) (has-append y l (x ∷ [])) (all-differ-snoc l x)
    ∙ ap (λ e. not (has y l || (e || false)) && (all_differ l && not (has x l))) (eqb_comm y x)
    ∙ by (has y l) (eqb x y) (all_differ l) (has x l)
  where
    by : (a e d h : Bool) → (not (a || (e || false)) && (d && not h)) ≡ ((not a && d) && not (e || h))
    by true e d h = refl
    by false true true h = refl
    by false true false h = refl
    by false false d h = refl

-- ---- weights
-- no weight is over the greatest
pub greatest-all : (l : List ℕ) → All (λ x. x ≤ greatest l) l
greatest-all [] = nil
greatest-all (x ∷ l) = cons {x = x} (omega arith) (all_map (λ y h. omega arith) (greatest-all l))

-- the greatest of some numbers that are no more than k
pub greatest-most : (k : ℕ) {l : List ℕ} → All (λ x. x ≤ k) l → greatest l ≤ k
greatest-most k nil = omega arith
greatest-most k (cons h a) = let g = greatest-most k a in omega arith

-- ---- how many lists
pub chunks-length : (c w : ℕ) (l : List ℕ) → length (chunks c w l) ≡ c
chunks-length zero w l = refl
chunks-length (suc c) w l = ap suc (chunks-length c w (drop w l))

pub entries-length : (ws : List ℕ) (ls : List (List ℕ)) → length ws ≡ length ls → length (entries ws ls) ≡ length ws
entries-length [] ls e = refl
entries-length (w ∷ ws) [] e = absurd (omega arith)
entries-length (w ∷ ws) (l ∷ ls) e = ap suc (entries-length ws ls (omega arith))

-- as many rows as the text says
pub rows-counted : (l : List ℕ) → counted l ≡ true → length (row_entries l) ≡ row_count l
rows-counted l full =
    let all = eqb-true (length l) (4 + column_count l + row_count l + column_count l * column_most l + row_count l * row_most l) full in
    let w : length (row_weights l) ≡ row_count l = length-take-le (row_count l) (after_column_weights l) (simp length-drop (omega arith)) in
    let c = chunks-length (row_count l) (row_most l) (after_columns l) in
    entries-length (row_weights l) (row_lists l) (omega arith) ∙ w

-- ---- one of the lists
-- behind one list more
behind : (w : ℕ) (l : List ℕ) (j : ℕ) → drop (suc j * w) l ≡ drop (j * w) (drop w l)
behind w l j = let s = suc-mul j w in let z : suc j * w ≡ w + j * w = omega arith in ap (λ k. drop k l) z ∙ sym (drop-drop (j * w) w l)

-- each of good lists is good, and lists are if each is
pub good-at : (most w : ℕ) (ws l : List ℕ) → good_lists most ws (chunks (length ws) w l) ≡ true → (j : ℕ) → j < length ws
    → good_list most (get_or ws j 0) (take w (drop (j * w) l)) ≡ true
good-at most w [] l h j k = absurd (omega arith)
good-at most w (v ∷ ws) l h zero k = ap (λ i. good_list most v (take w (drop i l))) (zero-mul w) ∙ and_l (good_list most v (take w l)) _ h
good-at most w (v ∷ ws) l h (suc j) k =
    ap (λ x. good_list most (get_or ws j 0) (take w x)) (behind w l j) ∙ good-at most w ws (drop w l) (and_r (good_list most v (take w l)) _ h) j (omega arith)

pub all-good : (most w : ℕ) (ws l : List ℕ) → ((j : ℕ) → j < length ws → good_list most (get_or ws j 0) (take w (drop (j * w) l)) ≡ true)
    → good_lists most ws (chunks (length ws) w l) ≡ true
all-good most w [] l h = refl
all-good most w (v ∷ ws) l h = and_both (good_list most v (take w l)) _
    (ap (λ i. good_list most v (take w (drop i l))) (sym (zero-mul w)) ∙ h 0 (omega arith))
    (all-good most w ws (drop w l) (λ j k. ap (λ x. good_list most (get_or ws j 0) (take w x)) (sym (behind w l j)) ∙ h (suc j) (omega arith)))

-- the entries of list j
pub entries_at : (w : ℕ) (ws l : List ℕ) (j : ℕ) → j < length ws → get_or (entries ws (chunks (length ws) w l)) j [] ≡ take (get_or ws j 0) (take w (drop (j * w) l))
entries_at w [] l j h = absurd (omega arith)
entries_at w (v ∷ ws) l zero h = ap (λ i. take v (take w (drop i l))) (sym (zero-mul w))
entries_at w (v ∷ ws) l (suc j) h = entries_at w ws (drop w l) j (omega arith) ∙ ap (λ x. take (get_or ws j 0) (take w x)) (sym (behind w l j))

-- ---- columns and rows
-- they agree just if each names the other or neither does
pub agree-all : (columns rows : List (List ℕ)) (n m : ℕ)
    → (any_of (λ r. any_of (one_sided columns rows r) (from 0 n)) (from 0 m) ≡ false)
    ↔ ((r c : ℕ) → r < m → c < n → has (suc r) (get_or columns c []) ≡ has (suc c) (get_or rows r []))
agree-all columns rows n m =
    let some : ℕ → Bool = λ r. any_of (one_sided columns rows r) (from 0 n) in (
      (λ e r c hr hc. bxor-none _ _ ((any-from (one_sided columns rows r) n).0 ((any-from some m).0 e r hr) c hc)),
      (λ g. (any-from some m).1 (λ r hr. (any-from (one_sided columns rows r) n).1 (λ c hc.
          ap (λ b. bxor b (has (suc c) (get_or rows r []))) (g r c hr hc) ∙ bxor-self (has (suc c) (get_or rows r []))))),
    )
