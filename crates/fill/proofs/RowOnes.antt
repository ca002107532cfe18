-- The places of a row of bits and the state's row: as many; the extra ones.
use mathlib.Core.Path.{◌≡◌, refl, sym, ap, ap₂, ◌∙◌}
use mathlib.Core.Bool.{Bool, true, false, not, ◌||◌}
use mathlib.Core.List.{List, []}
use mathlib.Core.Option.{Option, none, some}
use Prim.Native.Nat.{ℕ, zero, suc, ◌+◌, ◌<◌, ◌≤◌}
use native.Mathlib.Omega.{arith}
use borrow.Author.Tests.{not-true, ne_eqb, eq-eqb}
use lib.Dec.{eqb}
use lib.ListN.{length, get_or}
use Rattle.lists.specs.ListLaws.{all_map, all_get_d, all_of, filter_none, filter_same, has-empty}
use Rattle.lists.specs.Lists.{Distinct, Distinct.dnil, Distinct.dnew, has, filter, All, All.nil, All.cons, from}
use Rattle.lists.specs.Numbers.{from_all}
use Rattle.lists.specs.Tests.{by_bool, eqb-true, eqb-false, not_same}
use Rattle.gf2.specs.Gf2.{bit}
use Rattle.bits.specs.Row.{row, places_in}
use Rattle.draws.specs.DrawingLaws.{until-gives}
use Rattle.draws.specs.Generator.{Drawn, until}
use Rattle.lots.specs.Grid.{free, Put, Sought}
use Rattle.std.specs.Prelude.{Some, None, MatchOption}
use Rattle.std.specs.Option.{is_some}
use Rattle.std.specs.declared.option.Option.{Option as Found}
use Rattle.fill.specs.Fill.{State, put, extra, first_one, second_one}
use Rattle.fill.specs.Held.{Rep, Ends}
use Rattle.fill.proofs.Turns.{until-same, rep-put, ends_some, ends-none, ends_is}

-- ---- as many numbers are members as a list without repeats is long
module _ (p : ℕ) (l : List ℕ) where
  abbrev more : ℕ → Bool
  more j = eqb j p || has j l

  past : (i c : ℕ) → p < i → filter more (from i c) ≡ filter (λ j. has j l) (from i c)
  past i c h = filter_same more (λ j. has j l) (all_map (λ j g. let a = g.0 in ap (λ b. b || has j l) (ne_eqb j p (λ z. omega arith))) (from_all i c))

  one_more : has p l ≡ false → (i c : ℕ) → i ≤ p → p < i + c → length (filter more (from i c)) ≡ suc (length (filter (λ j. has j l) (from i c)))
  unfolding from
  one_more n i zero a b = absurd (omega arith)
  one_more n i (suc c) a b = by_bool (eqb i p)
      (λ t. let e = eqb-true i p t in
      let u : has i l ≡ false = ap (λ x. has x l) e ∙ n in
      rw (t, u) (ap (λ x. suc (length x)) (past (suc i) c (omega arith))))
      (λ t. let e = eqb-false i p t in
      let ih = one_more n (suc i) c (lower e) (omega arith) in
      by_bool (has i l) (λ u. rw (t, u) (ap suc ih)) (λ u. rw (t, u) ih))
    where
      lower : (i ≡ p → ⊥) → suc i ≤ p
      lower e = omega arith

members-length : (n : ℕ) {l : List ℕ} → Distinct l → All (λ p. p < n) l → length (filter (λ j. has j l) (from 0 n)) ≡ length l
members-length n dnil nil = ap length (filter_none (λ j. false) (all_of (λ j. refl) (from 0 n)))
members-length n (dnew {x = p} {l = l} h d) (cons b a) = one_more p l h 0 n (omega arith) (omega arith) ∙ ap suc (members-length n d a)

-- ---- a row
module _ (k m e : ℕ) (w : List ℕ) (raw left : ℕ) (s : State) (rep : Rep k m e w raw left s) (i : ℕ) (hi : i < m) where
  -- the same places
  places-are : places_in (row w i) ≡ filter (λ q. has q (get_or s.rows i [])) (from 0 1024)
  places-are = filter_same (λ q. bit q (row w i)) (λ q. has q (get_or s.rows i []))
      (all_map (λ q g. let a = g.1 in not_same (bit q (row w i)) (has q (get_or s.rows i [])) (rep.cells i q hi (omega arith))) (from_all 0 1024))

  -- as many
  degree-is : length (places_in (row w i)) ≡ length (get_or s.rows i [])
  degree-is =
      let there : i < length s.rows = let z = rep.good.long in omega arith in
      let r = all_get_d rep.good.each i there in
      let h = rep.sizes.k-low in
      ap length places-are ∙ members-length 1024 r.0 (all_map (λ p g. let y : p < k = g in omega arith) r.1)

  -- none: every place is free
  pub none_free : length (places_in (row w i)) ≡ 0 → (q : ℕ) → q < 1024 → free w q i ≡ true
  none_free z q h = rep.cells i q hi h ∙ ap not (has-empty (get_or s.rows i []) (sym degree-is ∙ z) q)

  -- a draw put in row i
  extra-step : (f : ℕ → Bool) → ((v : ℕ) → f v ≡ true → has v (get_or s.rows i []) ≡ false) → (o : Found ℕ) (x l : ℕ) (w' : List ℕ) → Sought k raw left f o x l
      → MatchOption o (w' ≡ w) (λ v. Put w i v w') → Ends (extra k i f s) (is_some o) (Rep k m e w' x l)
  extra-step f fr (Some v) x l w' t p =
      let d : Drawn = record { value = v; raw = x; left = l } in
      let t' : until s.left s.raw k f ≡ some d = ap₂ (λ a b. until a b k f) rep.left_is rep.raw-is ∙ sym t.drawn in
      let g = rep.good in
      let R : State = record { rows = put s.rows i v; order = s.order; used = s.used; raw = x; left = l } in
      let none-there = fr v (until-gives s.left s.raw k f d t').0 in
      ends_some (extra k i f s) true (Rep k m e w' x l) R (rw (t', extra)) refl
      (rep-put k m e w raw left s rep i v x l w' R hi t.below none-there t.small p refl g.low g.whole g.within refl refl)
  extra-step f fr None x l w' t p =
      let t' : until s.left s.raw k f ≡ none = ap₂ (λ a b. until a b k f) rep.left_is rep.raw-is ∙ sym t.drawn in
      ends-none (extra k i f s) false (Rep k m e w' x l) (rw (t', extra)) refl

  -- nothing is drawn
  stay : (f : State → Option State) → f s ≡ some s → Ends (f s) true (Rep k m e w raw left)
  stay f t = ends_some (f s) true (Rep k m e w raw left) s t refl rep

  pub first-put : length (places_in (row w i)) ≡ 0 → (o : Found ℕ) (x l : ℕ) (w' : List ℕ) → Sought k raw left (λ j. true) o x l
      → MatchOption o (w' ≡ w) (λ v. Put w i v w') → Ends (first_one k i s) (is_some o) (Rep k m e w' x l)
  first-put z o x l w' t p =
      let y : length (get_or s.rows i []) ≡ 0 = sym degree-is ∙ z in
      let q : first_one k i s ≡ extra k i (λ j. true) s = let b = eq-eqb (length (get_or s.rows i [])) 0 y in rw (b, first_one) in
      ends_is (is_some o) (Rep k m e w' x l) q (extra-step (λ j. true) (λ a g. has-empty (get_or s.rows i []) y a) o x l w' t p)

  pub first-keep : (length (places_in (row w i)) ≡ 0 → ⊥) → Ends (first_one k i s) true (Rep k m e w raw left)
  first-keep n = let b = ne_eqb (length (get_or s.rows i [])) 0 (λ z. n (degree-is ∙ z)) in stay (first_one k i) (rw (b, first_one))

  pub second-put : length (places_in (row w i)) ≡ 1 → (o : Found ℕ) (x l : ℕ) (w' : List ℕ) → Sought k raw left (λ j. free w j i) o x l
      → MatchOption o (w' ≡ w) (λ v. Put w i v w') → Ends (second_one k i s) (is_some o) (Rep k m e w' x l)
  second-put z o x l w' t p =
      let h = rep.sizes.k-low in
      let g : ℕ → Bool = λ j. not (has j (get_or s.rows i [])) in
      let q : second_one k i s ≡ extra k i g s = let b = eq-eqb (length (get_or s.rows i [])) 1 (sym degree-is ∙ z) in rw (b, second_one) in
      let u = until-same (λ j. free w j i) g left raw k rep.sizes.k-some (λ j y. rep.cells i j hi (omega arith)) in
      let t' : Sought k raw left g o x l = record { drawn = t.drawn ∙ u; small = t.small; below = t.below } in
      ends_is (is_some o) (Rep k m e w' x l) q (extra-step g (λ a y. not-true _ y) o x l w' t' p)

  pub second-keep : (length (places_in (row w i)) ≡ 1 → ⊥) → Ends (second_one k i s) true (Rep k m e w raw left)
  second-keep n = let b = ne_eqb (length (get_or s.rows i [])) 1 (λ z. n (degree-is ∙ z)) in stay (second_one k i) (rw (b, second_one))
