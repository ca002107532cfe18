-- A one put in column j, in the rows of bits and in the state.
use mathlib.Core.Path.{◌≡◌, refl, sym, ap, ap₂, ◌∙◌, subst}
use mathlib.Core.Bool.{Bool, true, false, not, ◌||◌}
use mathlib.Core.List.{List, [], ◌∷◌}
use mathlib.Core.Option.{Option, none, some}
use Prim.Native.Nat.{ℕ, zero, suc, ◌+◌, ◌-◌, ◌<◌, ◌≤◌}
use native.Mathlib.Omega.{arith}
use borrow.Author.Tests.{not-true}
use lib.Dec.{eqb}
use lib.ListN.{length, get_or, set, take, drop, length-set}
use lib.Seq.{get_or-set_same, get_or-set_other, get_or-take, take-set-lt, length-take-le}
use Rattle.lists.specs.ListLaws.{all_map, all_drop}
use Rattle.lists.specs.Lists.{has, any_of, All, All.nil, All.cons}
use Rattle.lists.specs.Tests.{by_bool, eqb-true, eqb-false}
use Rattle.draws.specs.DrawingLaws.{drawn-low, until-gives}
use Rattle.draws.specs.Generator.{modulus, next, drawn, Drawn, until}
use Rattle.lots.specs.Grid.{free, free_entry, Put, Sought}
use Rattle.std.specs.Prelude.{Some, None, MatchOption}
use Rattle.std.specs.Option.{is_some}
use Rattle.std.specs.declared.option.Option.{Option as Found}
use Rattle.fill.specs.Fill.{State, vacant, put, by_order, by_row, one}
use Rattle.fill.specs.Good.{put-gives, entry-low, entry_set, free-there}
use Rattle.fill.specs.Held.{Rep, Order, Both, Ends}

-- tests that agree below the bound draw the same
pub until-same : (f g : ℕ → Bool) (left raw max : ℕ) → 0 < max → ((v : ℕ) → v < max → f v ≡ g v) → until left raw max f ≡ until left raw max g
until-same f g zero raw max h e = refl
until-same f g (suc left) raw max h e =
    let v = drawn max (next raw) in
    let same = e v (drawn-low max raw h) in
    by_bool (f v)
    (λ t. let t' = sym same ∙ t in rw (t, t', until))
    (λ t. let t' = sym same ∙ t in rw (t, t', until) (until-same f g left (next raw) max h e))

-- ---- the cells after a put
module _ {w e : List ℕ} {r c : ℕ} (p : Put w r c e) (rows : List (List ℕ)) (there : r < length rows) where
  -- the places of row r
  put-here : (q : ℕ) → vacant (put rows r c) q r ≡ not (eqb q c || has q (get_or rows r []))
  put-here q = ap (λ x. not (has q x)) (get_or-set_same rows r (c ∷ get_or rows r []) [] there)

  pub cells-put : (i q : ℕ) → q < 1024 → free w q i ≡ vacant rows q i → free e q i ≡ vacant (put rows r c) q i
  cells-put i q h t = by_bool (eqb i r)
      (λ a. let i-is = eqb-true i r a in by_bool (eqb q c)
      (λ b. ap₂ (free e) (eqb-true q c b) i-is ∙ p.here ∙ sym (ap (vacant (put rows r c) q) i-is ∙ put-here q ∙ ap (λ x. not (x || has q (get_or rows r []))) b))
      (λ b. p.rest i q h (λ _ z. eqb-false q c b z) ∙ t
      ∙ sym (ap (vacant (put rows r c) q) i-is ∙ put-here q ∙ ap (λ x. not (x || has q (get_or rows r []))) b ∙ ap (vacant rows q) (sym i-is))))
      (λ a. let n = eqb-false i r a in
      p.rest i q h (λ z _. n z) ∙ t ∙ sym (ap (λ x. not (has q x)) (get_or-set_other rows r i (c ∷ get_or rows r []) [] n)))

-- ---- the state after a put
module _ (k m e : ℕ) (w : List ℕ) (raw left : ℕ) (s : State) (rep : Rep k m e w raw left s) where
  pub rep-put : (i j x l : ℕ) (w' : List ℕ) (r : State) → i < m → j < k → has j (get_or s.rows i []) ≡ false → x < modulus → Put w i j w'
      → r.rows ≡ put s.rows i j → All (λ y. y < m) r.order → length r.order ≡ e → r.used ≤ e → r.raw ≡ x → r.left ≡ l
      → Rep k m e w' x l r
  rep-put i j x l w' r hi hj fr hx p er o wh us ex el =
      let there : i < length s.rows = let q = rep.good.long in omega arith in
      record {
        sizes = rep.sizes;
        good = (put-gives k m e s rep.good i j hi hj fr r er o wh us).0;
        wide = p.len ∙ rep.wide;
        cells = λ a b ha hb. cells-put p s.rows there a b hb (rep.cells a b ha hb) ∙ ap (λ y. vacant y b a) (sym er);
        low = hx;
        raw-is = ex;
        left_is = el;
      }

-- what a step ends in
pub ends_some : (o : Option State) (ok : Bool) (P : State → Type 0) (r : State) → o ≡ some r → ok ≡ true → P r → Ends o ok P
ends_some o ok P r e t p = subst (λ x. Ends x ok P) (sym e) (t, p)

pub ends-none : (o : Option State) (ok : Bool) (P : State → Type 0) → o ≡ none → ok ≡ false → Ends o ok P
ends-none o ok P e t = subst (λ x. Ends x ok P) (sym e) t

pub ends_is : {o o' : Option State} (ok : Bool) (P : State → Type 0) → o ≡ o' → Ends o' ok P → Ends o ok P
ends_is ok P e p = subst (λ x. Ends x ok P) (sym e) p

-- ---- lists
any_same : {X : Type 0} (f g : X → Bool) {l : List X} → All (λ x. f x ≡ g x) l → any_of f l ≡ any_of g l
any_same f g nil = refl
any_same f g (cons h a) = ap₂ (λ x y. x || y) h (any_same f g a)

-- all entries stay small
small-set : (u : List ℕ) (i v : ℕ) → ((q : ℕ) → get_or u q 0 < 512) → v < 512 → (q : ℕ) → get_or (set u i v) q 0 < 512
small-set [] i v h l q = h q
small-set (x ∷ u) zero v h l zero = l
small-set (x ∷ u) zero v h l (suc q) = h (suc q)
small-set (x ∷ u) (suc i) v h l zero = h zero
small-set (x ∷ u) (suc i) v h l (suc q) = small-set u i v (λ p. h (suc p)) l q

-- ---- the steps of a column
module _ (k m e : ℕ) (w u : List ℕ) (used raw left : ℕ) (s : State) (both : Both k m e w u used raw left s) (j : ℕ) (hj : j < k) where
  -- column j is a place
  inside : j < 1024
  inside = let h = both.rep.sizes.k-low in omega arith

  row-draws : until s.left s.raw m (vacant s.rows j) ≡ until left raw m (free w j)
  row-draws = let rep = both.rep in
      ap₂ (λ x y. until x y m (vacant s.rows j)) rep.left_is rep.raw-is
      ∙ sym (until-same (free w j) (vacant s.rows j) left raw m rep.sizes.m-some (λ v h. rep.cells v j h inside))

  -- by rows
  row_step : (o : Found ℕ) (x l : ℕ) (w' : List ℕ) → Sought m raw left (free w j) o x l → MatchOption o (w' ≡ w) (λ v. Put w v j w') → Ends (by_row m j s) (is_some o) (Both k m e w' u used x l)
  row_step (Some v) x l w' t p =
      let rep = both.rep in
      let ord = both.order in
      let d : Drawn = record { value = v; raw = x; left = l } in
      let t' : until s.left s.raw m (vacant s.rows j) ≡ some d = row-draws ∙ sym t.drawn in
      let fr = not-true _ (until-gives s.left s.raw m (vacant s.rows j) d t').0 in
      let R : State = record { rows = put s.rows v j; order = s.order; used = s.used; raw = x; left = l } in
      ends_some (by_row m j s) true (Both k m e w' u used x l) R (rw (t', by_row)) refl (record {
        rep = rep-put k m e w raw left s rep v j x l w' R t.below hj fr t.small p refl rep.good.low rep.good.whole rep.good.within refl refl;
        order = record { listed = ord.listed; long = ord.long; small = ord.small; used-is = ord.used-is };
      })
  row_step None x l w' t p =
      let t' : until s.left s.raw m (vacant s.rows j) ≡ none = row-draws ∙ sym t.drawn in
      ends-none (by_row m j s) false (Both k m e w' u used x l) (rw (t', by_row)) refl

  -- by the list u
  entry-is : (i : ℕ) → i < e → get_or u i 0 ≡ get_or s.order i 0
  entry-is i h = sym (get_or-take e u i 0 h) ∙ ap (λ x. get_or x i 0) both.order.listed

  row_low : (i : ℕ) → get_or s.order i 0 < m
  row_low i = entry-low both.rep.sizes.m-some both.rep.good.low i

  -- the test of the draws
  abbrev entry_free : ℕ → ℕ → Bool
  entry_free t v = vacant s.rows j (get_or s.order (t + v) 0)

  order-draws : used < e → until s.left s.raw (e - s.used) (entry_free s.used) ≡ until left raw (e - used) (free_entry w u used j)
  order-draws h = let rep = both.rep in
      ap₂ (λ x y. until x y (e - s.used) (entry_free s.used)) rep.left_is rep.raw-is
      ∙ ap (λ z. until left raw (e - z) (entry_free z)) both.order.used-is
      ∙ sym (until-same (free_entry w u used j) (entry_free used) left raw (e - used) (omega arith)
      (λ v g. ap (free w j) (entry-is (used + v) (omega arith)) ∙ rep.cells (get_or s.order (used + v) 0) j (row_low (used + v)) inside))

  -- u after the draw
  order-put : (v x l : ℕ) → used < e → used + v < e
      → Order e (set u (used + v) (get_or u used 0)) (used + 1)
      (record { rows = put s.rows (get_or s.order (s.used + v) 0) j; order = set s.order (s.used + v) (get_or s.order s.used 0); used = suc s.used; raw = x; left = l })
  order-put v x l h hv =
      let ord = both.order in
      let q : used ≡ s.used = sym ord.used-is in
      let here : used + v ≡ s.used + v = ap (λ y. y + v) q in
      let first : get_or u used 0 ≡ get_or s.order s.used 0 = entry-is used h ∙ ap (λ p. get_or s.order p 0) q in
      record {
        listed = take-set-lt e u (used + v) (get_or u used 0) hv ∙ ap (λ p. set p (used + v) (get_or u used 0)) ord.listed ∙ ap₂ (set s.order) here first;
        long = subst (λ (p : ℕ). e ≤ p) (sym (length-set u (used + v) (get_or u used 0))) ord.long;
        small = small-set u (used + v) (get_or u used 0) ord.small (ord.small used);
        used-is = omega arith;
      }

  order-step : used < e → (o : Found ℕ) (x l : ℕ) (w' u' : List ℕ) → Sought (e - used) raw left (free_entry w u used j) o x l
      → MatchOption o ((w' ≡ w) × (u' ≡ u)) (λ v. Put w (get_or u (used + v) 0) j w' × (u' ≡ set u (used + v) (get_or u used 0)))
      → Ends (by_order e j s) (is_some o) (Both k m e w' u' (used + 1) x l)
  order-step h (Some v) x l w' u' t (p, q') =
      let rep = both.rep in
      let q = both.order.used-is in
      let hv : used + v < e = let b = t.below in omega arith in
      let d : Drawn = record { value = v; raw = x; left = l } in
      let t' : until s.left s.raw (e - s.used) (entry_free s.used) ≡ some d = order-draws h ∙ sym t.drawn in
      let i = s.used + v in
      let R : State = record { rows = put s.rows (get_or s.order i 0) j; order = set s.order i (get_or s.order s.used 0); used = suc s.used; raw = x; left = l } in
      let row : get_or u (used + v) 0 ≡ get_or s.order i 0 = entry-is (used + v) hv ∙ ap (λ y. get_or s.order (y + v) 0) (sym q) in
      let fr = not-true _ (until-gives s.left s.raw (e - s.used) (entry_free s.used) d t').0 in
      let low = entry_set rep.good.low i (get_or s.order s.used 0) (row_low s.used) in
      let long = length-set s.order i (get_or s.order s.used 0) ∙ rep.good.whole in
      let p' = subst (λ y. Put w y j w') row p in
      subst (λ y. Ends (by_order e j s) true (Both k m e w' y (used + 1) x l)) (sym q') (ends_some (by_order e j s) true (Both k m e w' (set u (used + v) (get_or u used 0)) (used + 1) x l) R (rw (t', by_order)) refl (record {
        rep = rep-put k m e w raw left s rep (get_or s.order i 0) j x l w' R (row_low i) hj fr t.small p' refl low long (omega arith) refl refl;
        order = order-put v x l h hv;
      }))
  order-step h None x l w' u' t p =
      let t' : until s.left s.raw (e - s.used) (entry_free s.used) ≡ none = order-draws h ∙ sym t.drawn in
      ends-none (by_order e j s) false (Both k m e w' u' (used + 1) x l) (rw (t', by_order)) refl

  -- the scan
  scan-is : any_of (vacant s.rows j) (drop s.used s.order) ≡ any_of (free w j) (drop used (take e u))
  scan-is = sym (ap (λ x. any_of (free w j) (drop used x)) both.order.listed ∙ ap (λ x. any_of (free w j) (drop x s.order)) (sym both.order.used-is)
      ∙ any_same (free w j) (vacant s.rows j) (all_map (λ x h. both.rep.cells x j h inside) (all_drop s.used both.rep.good.low)))

  pub below_end : (scanned : Bool) → scanned ≡ any_of (free w j) (drop used (take e u)) → scanned ≡ true → used < e
  below_end b a t = let h = free-there (free w j) used (take e u) (sym a ∙ t) in let z = length-take-le e u both.order.long in omega arith

  -- what `one` ends in
  pub order-done : (scanned : Bool) → scanned ≡ any_of (free w j) (drop used (take e u)) → scanned ≡ true
      → (o : Found ℕ) (x l : ℕ) (w' u' : List ℕ) → Sought (e - used) raw left (free_entry w u used j) o x l
      → MatchOption o ((w' ≡ w) × (u' ≡ u)) (λ v. Put w (get_or u (used + v) 0) j w' × (u' ≡ set u (used + v) (get_or u used 0)))
      → Ends (one e m j s) (is_some o) (Both k m e w' u' (used + 1) x l)
  order-done b a t o x l w' u' d p =
      let t' = scan-is ∙ sym a ∙ t in
      let q : one e m j s ≡ by_order e j s = rw (t', one) in
      ends_is (is_some o) (Both k m e w' u' (used + 1) x l) q (order-step (below_end b a t) o x l w' u' d p)

  pub row_done : (scanned : Bool) → scanned ≡ any_of (free w j) (drop used (take e u)) → scanned ≡ false
      → (o : Found ℕ) (x l : ℕ) (w' : List ℕ) → Sought m raw left (free w j) o x l
      → MatchOption o (w' ≡ w) (λ v. Put w v j w') → Ends (one e m j s) (is_some o) (Both k m e w' u used x l)
  row_done b a t o x l w' d p =
      let t' = scan-is ∙ sym a ∙ t in
      let q : one e m j s ≡ by_row m j s = rw (t', one) in
      ends_is (is_some o) (Both k m e w' u used x l) q (row_step o x l w' d p)
